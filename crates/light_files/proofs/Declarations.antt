-- What declarations and files add to the weights.
use Rattle.std.proofs.Common.{◌≡◌, ℕ, List, [], ◌∷◌, ◌++◌, Option, Some, None, refl, sym, ap, append_assoc, arith}
use Rattle.slang_lexer.specs.declared.token.TokenKind.TheVariants as kind
use Rattle.slang_tree.specs.declared.place.Place.{Place}
use Rattle.slang_tokens.specs.Tok.{Tok, sign}
use Rattle.slang_tokens.specs.Kinds.{counted_kinds}
use Rattle.slang_grammar.specs.Parts.{members, listed, optional, name_token, typed_tokens, element_tokens}
use Rattle.slang_grammar.specs.Expressions.{ClaimsText, claims_tokens, AreClaims}
use Rattle.slang_grammar.specs.Declarations.{ConstText, const_number, const_minus, const_truth, const_falsity, const_sequence, const_record, ConstsText}
use Rattle.slang_grammar.specs.Declarations.{no_consts, last_const, const_then, const_tokens, consts_tokens, ParamText, param_tokens, field_tokens}
use Rattle.slang_grammar.specs.Declarations.{ClauseText, requires_clause, modifies_clause, ensures_clause, clause_tokens, IsClause, PartText, contract_part}
use Rattle.slang_grammar.specs.Declarations.{stmt_part, return_part, part_tokens, IsPart, PathText, path_tokens, MethodText, method_tokens, IsMethod}
use Rattle.slang_grammar.specs.Declarations.{DeclText, import_text, global_text, record_text, method_text, decl_tokens, IsDecl}
use Rattle.slang_grammar.specs.Texts.{FileText, file_tokens, IsFile}
use Rattle.print_expressions.specs.Hefts.{around, peak_of}
use Rattle.light_files.specs.Hefts.{typed_heft, const_heft, consts_peak, param_peak, field_peak, clause_peak, part_peak, path_heft, method_heft, decl_peak}
use Rattle.light_files.specs.Hefts.{file_peak}
use Rattle.light_files.proofs.Counts.{Has, Inside, has_is, has_none, has_plain, has_one, has_then, inside_has, inside_none}
use Rattle.light_files.proofs.Expressions.{has_equal, has_round, has_braces, has_round_then, comma_then, listed_inside, type_has, element_has, expr_has}
use Rattle.light_files.proofs.Expressions.{exprs_inside}
use Rattle.light_files.proofs.Statements.{Any, all_any, value_plain, names_has, typed_has, stmt_has}

regroup_right : (a b c d : List Tok) → a ++ (b ++ (c ++ d)) ≡ ((a ++ b) ++ c) ++ d
regroup_right a b c d = simp append_assoc

module _ (limit : ℕ) where
  mutual
    unfolding counted_kinds

    const_has : (c : ConstText) → Has limit (const_tokens c) (const_heft c)
    const_has (const_number digits place) = has_plain limit _ (λ at. refl) (has_none limit)
    const_has (const_minus minus digits place) =
        has_is limit (omega arith) (omega arith) (has_one limit (sign kind.Minus minus) (λ at. refl) (has_plain limit _ (λ at. refl) (has_none limit)))
    const_has (const_truth place) = has_plain limit _ (λ at. refl) (has_none limit)
    const_has (const_falsity place) = has_plain limit _ (λ at. refl) (has_none limit)
    const_has (const_sequence word ty left elements right) =
        has_plain limit _ (λ at. refl) (has_equal limit (sym (append_assoc (optional element_tokens ty) (sign kind.LeftParen left ∷ consts_tokens elements) _))
        (has_then limit (element_has limit ty) (has_round limit left right (consts_inside elements))))
    const_has (const_record n left fields right) = has_plain limit _ (λ at. refl) (has_round limit left right (consts_inside fields))

    consts_inside : (cs : ConstsText) → Inside limit (consts_tokens cs) (consts_peak cs)
    consts_inside no_consts = inside_none limit
    consts_inside (last_const c) = inside_has limit (const_has c)
    consts_inside (const_then c comma more) = comma_then limit comma (inside_has limit (const_has c)) (consts_inside more)

  param_has : (p : ParamText) → Has limit (param_tokens p) (typed_heft p.ty)
  unfolding counted_kinds
  param_has p = has_plain limit _ (λ at. refl) (has_plain limit _ (λ at. refl) (type_has limit p.ty.ty))

  field_has : (fixed : Option Place) (p : ParamText) → Has limit (field_tokens (record { fixed = fixed; param = p })) (typed_heft p.ty)
  unfolding counted_kinds
  field_has None p = param_has p
  field_has (Some place) p = has_plain limit (sign kind.Val place) (λ at. refl) (param_has p)

  claims_has : (c : ClaimsText) → AreClaims c → Has limit (claims_tokens c) (around (peak_of c.claims))
  claims_has c g = has_round limit c.left c.right (exprs_inside limit c.claims g.1)

  clause_inside : (c : ClauseText) → IsClause c → Inside limit (clause_tokens c) (clause_peak c)
  unfolding counted_kinds
  clause_inside (requires_clause word claims) g = inside_has limit (has_plain limit (sign kind.Requires word) (λ at. refl) (claims_has claims g))
  clause_inside (modifies_clause word names) g = inside_has limit (has_plain limit (sign kind.Modifies word) (λ at. refl) (names_has limit names))
  clause_inside (ensures_clause word claims) g = inside_has limit (has_plain limit (sign kind.Ensures word) (λ at. refl) (claims_has claims g))

  part_inside : (part : PartText) → IsPart part → Inside limit (part_tokens part) (part_peak part)
  unfolding counted_kinds
  part_inside (contract_part c) g =
      inside_has limit (has_plain limit (sign kind.Contract c.word) (λ at. refl)
      (has_round limit c.left c.right
      (listed_inside limit kind.Comma clause_tokens clause_peak IsClause (λ at. refl) clause_inside c.clauses.front c.clauses.last g.1)))
  part_inside (stmt_part stmt) g = inside_has limit (stmt_has limit stmt g)
  part_inside (return_part word e) g = inside_has limit (has_plain limit (sign kind.Return word) (λ at. refl) (expr_has limit e g))

  path_has : (path : List PathText) → Has limit (path_tokens path) (path_heft path)
  unfolding counted_kinds
  path_has [] = has_none limit
  path_has (part ∷ more) = has_one limit (sign kind.Dot part.dot) (λ at. refl) (has_plain limit (name_token part.written) (λ at. refl) (path_has more))

  method_has : (m : MethodText) → IsMethod m → Has limit (method_tokens m) (method_heft m)
  unfolding counted_kinds
  method_has m g =
      has_plain limit (sign kind.Def m.word) (λ at. refl)
      (has_plain limit (name_token m.written) (λ at. refl)
      (has_equal limit (ap (λ l. sign kind.LeftParen m.left ∷ l)
      (regroup_right (listed kind.Comma param_tokens m.params) (sign kind.RightParen m.right ∷ typed_tokens m.result)
      (sign kind.Equals m.equals ∷ sign kind.LeftBrace m.begin ∷ listed kind.Newline part_tokens m.body) (sign kind.RightBrace m.end ∷ [])))
      (has_round_then limit m.left m.right
      (listed_inside limit kind.Comma param_tokens param_peak Any (λ at. refl) (λ p h. inside_has limit (param_has p))
      m.params.front m.params.last (all_any (members m.params)))
      (has_then limit (has_plain limit (sign kind.Colon m.result.colon) (λ at. refl) (type_has limit m.result.ty))
      (has_plain limit (sign kind.Equals m.equals) (λ at. refl)
      (has_braces limit m.begin m.end
      (listed_inside limit kind.Newline part_tokens part_peak IsPart (λ at. refl) part_inside m.body.front m.body.last g.4)))))))

  decl_inside : (decl : DeclText) → IsDecl decl → Inside limit (decl_tokens decl) (decl_peak decl)
  unfolding counted_kinds
  decl_inside (import_text word first path) g =
      inside_has limit (has_plain limit (sign kind.Import word) (λ at. refl) (has_plain limit (name_token first) (λ at. refl) (path_has path)))
  decl_inside (global_text fixed word n ty equals init) g =
      inside_has limit (has_plain limit (sign _ word) (value_plain fixed) (has_plain limit (name_token n) (λ at. refl)
      (has_then limit (typed_has limit ty) (has_plain limit (sign kind.Equals equals) (λ at. refl) (const_has init)))))
  decl_inside (record_text at datatype word n left fields right) g =
      inside_has limit
      (has_plain limit _ (λ it. refl) (has_plain limit _ (λ it. refl) (has_plain limit _ (λ it. refl) (has_plain limit (name_token n) (λ it. refl)
      (has_round limit left right
      (listed_inside limit kind.Comma field_tokens field_peak Any (λ it. refl) (λ f h. inside_has limit (field_has f.fixed f.param)) fields.front fields.last
      (all_any (members fields))))))))
  decl_inside (method_text m) g = inside_has limit (method_has m g)

  pub file_inside : (file : FileText) → IsFile file → Inside limit (file_tokens file) (file_peak file)
  unfolding counted_kinds
  file_inside file g = listed_inside limit kind.Newline decl_tokens decl_peak IsDecl (λ at. refl) decl_inside file.front file.last g
