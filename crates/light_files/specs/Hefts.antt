-- What statements and declarations add to the weights of the tokens of a text. The count begins again at each comma and newline, so of what
-- stands between them only the most that a token adds is told.
use Rattle.std.specs.Prelude.{ℕ, max, List, [], ◌∷◌, Option, Some, None}
use Rattle.slang_grammar.specs.Parts.{members, TypedText}
use Rattle.slang_grammar.specs.Proofs.{CitesText, AssumeText, StepText, line, block, let_block, BehindText, nothing_behind, behind, StepsText, no_steps}
use Rattle.slang_grammar.specs.Proofs.{last_step, step_then}
use Rattle.slang_grammar.specs.Statements.{TestText, ClaimsBehind, no_claims, claims_behind, InvariantText, StmtText, value, assignment, call, branch, loop}
use Rattle.slang_grammar.specs.Statements.{assertion, deduction, IfText, if_then, ElseText, no_else, else_block, else_if, BlockText, StmtsText, no_stmts}
use Rattle.slang_grammar.specs.Statements.{last_stmt, stmt_then, LoopText, no_body, body}
use Rattle.slang_grammar.specs.Statements as s
use Rattle.slang_grammar.specs.Declarations.{ConstText, const_minus, const_sequence, const_record, ConstsText, no_consts, last_const, const_then, ParamText}
use Rattle.slang_grammar.specs.Declarations.{FieldText, ClauseText, requires_clause, modifies_clause, ensures_clause, PartText, contract_part, stmt_part}
use Rattle.slang_grammar.specs.Declarations.{return_part, PathText, MethodText, DeclText, import_text, global_text, record_text, method_text}
use Rattle.slang_grammar.specs.Texts.{FileText}
use Rattle.print_expressions.specs.Hefts.{Heft, nothing, one, around, followed, type_heft, element_heft, heft, peak_of}

-- the most that one of these adds
abbrev pub most : {A : Type 0} → (A → ℕ) → List A → ℕ
most peak [] = 0
most peak (x ∷ xs) = max (peak x) (most peak xs)

abbrev pub written_heft : {A : Type 0} → (A → Heft) → Option A → Heft
written_heft own None = nothing
written_heft own (Some part) = own part

abbrev pub typed_heft : TypedText → Heft
typed_heft t = type_heft t.ty

-- ---- proofs

-- labels and names in brackets
abbrev pub cites_heft : CitesText → Heft
cites_heft c = around 0

-- the brackets of an assumption, with what adds so much behind it
abbrev pub assumed_heft : AssumeText → ℕ → Heft
assumed_heft a peak = around (max (around (heft a.claim).peak).peak peak)

abbrev mutual
  pub step_heft : StepText → Heft
  step_heft (line label left claim right by rule cites) = followed (around (heft claim).peak) (written_heft cites_heft cites)
  step_heft (block label assume more right) = assumed_heft assume (behind_peak more)
  step_heft (let_block label l assume more right outer) = around (followed (around 0) (assumed_heft assume (behind_peak more))).peak

  pub behind_peak : BehindText → ℕ
  behind_peak nothing_behind = 0
  behind_peak (behind comma steps) = steps_peak steps

  pub steps_peak : StepsText → ℕ
  steps_peak no_steps = 0
  steps_peak (last_step step) = (step_heft step).peak
  steps_peak (step_then step comma more) = max (step_heft step).peak (steps_peak more)

-- ---- statements

abbrev pub test_heft : TestText → Heft
test_heft t = around (heft t.test).peak

abbrev pub claims_peak : ClaimsBehind → ℕ
claims_peak no_claims = 0
claims_peak (claims_behind comma claims) = peak_of claims

abbrev pub invariant_heft : InvariantText → Heft
invariant_heft i = around (max (around 0).peak (claims_peak i.claims))

abbrev mutual
  pub stmt_heft : StmtText → Heft
  stmt_heft (value fixed word n ty equals e) = followed (written_heft typed_heft ty) (heft e)
  stmt_heft (assignment n equals e) = heft e
  stmt_heft (call n left arguments right) = around (peak_of arguments)
  stmt_heft (branch text) = if_heft text
  stmt_heft (loop test begin invariant text end) =
      followed (test_heft test) (around (max (invariant_heft invariant).peak (loop_peak text)))
  stmt_heft (assertion word left claim right) = around (heft claim).peak
  stmt_heft (deduction word left steps right) = around (steps_peak steps)

  pub if_heft : IfText → Heft
  if_heft (if_then test then otherwise) = followed (followed (test_heft test) (block_heft then)) (else_heft otherwise)

  pub else_heft : ElseText → Heft
  else_heft no_else = nothing
  else_heft (else_block word text) = followed one (block_heft text)
  else_heft (else_if word text) = followed one (if_heft text)

  pub block_heft : BlockText → Heft
  block_heft (s.block begin stmts end) = around (stmts_peak stmts)

  pub stmts_peak : StmtsText → ℕ
  stmts_peak no_stmts = 0
  stmts_peak (last_stmt stmt) = (stmt_heft stmt).peak
  stmts_peak (stmt_then stmt newline more) = max (stmt_heft stmt).peak (stmts_peak more)

  pub loop_peak : LoopText → ℕ
  loop_peak no_body = 0
  loop_peak (body newline stmts) = stmts_peak stmts

-- ---- declarations

abbrev mutual
  pub const_heft : ConstText → Heft
  const_heft (const_minus minus digits place) = one
  const_heft (const_sequence word ty left elements right) = followed (element_heft ty) (around (consts_peak elements))
  const_heft (const_record n left fields right) = around (consts_peak fields)
  const_heft other = nothing

  pub consts_peak : ConstsText → ℕ
  consts_peak no_consts = 0
  consts_peak (last_const c) = (const_heft c).peak
  consts_peak (const_then c comma more) = max (const_heft c).peak (consts_peak more)

abbrev pub param_peak : ParamText → ℕ
param_peak p = (typed_heft p.ty).peak

abbrev pub field_peak : FieldText → ℕ
field_peak f = param_peak f.param

abbrev pub clause_peak : ClauseText → ℕ
clause_peak (requires_clause word claims) = (around (peak_of claims.claims)).peak
clause_peak (modifies_clause word names) = (around 0).peak
clause_peak (ensures_clause word claims) = (around (peak_of claims.claims)).peak

abbrev pub part_peak : PartText → ℕ
part_peak (contract_part contract) = (around (most clause_peak (members contract.clauses))).peak
part_peak (stmt_part stmt) = (stmt_heft stmt).peak
part_peak (return_part word e) = (heft e).peak

-- each dot counts
abbrev pub path_heft : List PathText → Heft
path_heft [] = nothing
path_heft (part ∷ more) = followed one (path_heft more)

abbrev pub method_heft : MethodText → Heft
method_heft m = followed (around (most param_peak (members m.params))) (followed (typed_heft m.result) (around (most part_peak (members m.body))))

abbrev pub decl_peak : DeclText → ℕ
decl_peak (import_text word first path) = (path_heft path).peak
decl_peak (global_text fixed word n ty equals init) = (followed (written_heft typed_heft ty) (const_heft init)).peak
decl_peak (record_text at datatype word n left fields right) = (around (most field_peak (members fields))).peak
decl_peak (method_text m) = (method_heft m).peak

abbrev pub file_peak : FileText → ℕ
file_peak file = most decl_peak (members file)
