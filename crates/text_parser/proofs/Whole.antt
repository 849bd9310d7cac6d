-- What was read of the tokens of bytes is their tree, and what was told is their first fault.
use Rattle.std.proofs.Common.{◌≡◌, ℕ, List, [], Some, Result, Ok, Err, take, refl, sym, ap, ◌∙◌, subst}
use Rattle.std.specs.Prelude.{IfOk, IfErr, IsErrAnd, MatchResult}
use Rattle.std.specs.Str.{IsUtf8, IsValidUpTo}
use Rattle.slang_tree.specs.declared.place.Fault.{Fault}
use Rattle.slang_tree.specs.declared.declaration.File.{File}
use Rattle.slang_tree.specs.DeclTree.{DeclTree, file_tree}
use Rattle.slang_tokens.specs.declared.read.TokensEnd.{TokensEnd}
use Rattle.slang_tokens.specs.Tok.{Tok}
use Rattle.slang_tokens.specs.Tokens.{AreTokens}
use Rattle.slang_tokens.specs.Places.{place_behind}
use Rattle.slang_grammar.specs.Texts.{Reads}
use Rattle.slang_grammar.specs.Faults.{HasFault, not_utf8}
use Rattle.slang_grammar.proofs.Fronts.{one_fault, no_fault}
use Rattle.slang_machine.specs.States.{top}
use Rattle.token_cursor.specs.declared.stop.Due.{Due}
use Rattle.token_cursor.specs.declared.stop.Stop.{Stop}
use Rattle.token_cursor.specs.declared.stop.Stop.TheVariants.{Refused}
use Rattle.token_cursor.specs.Gives.{IfRefused}
use Rattle.token_cursor.specs.Outcome.{outcome, read, stuck}
use Rattle.first_faults.specs.Stops.{stop}
use Rattle.std.proofs.lemmas.Result.{err_from_is_err_and}
use Rattle.machine_complete.proofs.Declarations.{one_tree}
use Rattle.byte_faults.proofs.Bytes.{faults_of_bytes, trees_of_bytes}
use Rattle.fault_codes.proofs.Stopped.{run_read}
use Rattle.text_parser.specs.declared.text.ParseEnd.{ParseEnd}
use Rattle.text_parser.specs.declared.text.ParseEnd.TheVariants as parse_end
use Rattle.text_parser.specs.Ends.{IfFault, IsFaultOf, IsEnd}

pub weaker : (end : ParseEnd) (P Q : Fault → Type 0) → ((fault : Fault) → P fault → Q fault) → IfFault end P → IfFault end Q
weaker (parse_end.Fault fault) P Q f h = f fault h
weaker parse_end.NoMemory P Q f h = tt

pub err_weaker : {X : Type 0} (result : Result X ParseEnd) (P Q : Fault → Type 0) → ((fault : Fault) → P fault → Q fault)
    → IfErr result (λ end. IfFault end P) → IfErr result (λ end. IfFault end Q)
err_weaker (Ok it) P Q f h = tt
err_weaker (Err end) P Q f h = weaker end P Q f h

-- the error that is passed on tells what the callee's told
pub passed_on : {X : Type 0} (result : Result X ParseEnd) (end : ParseEnd) (P Q : Fault → Type 0) → IsErrAnd result (λ it. it ≡ end) → IfFault end P
    → ((fault : Fault) → P fault → Q fault) → IfErr result (λ it. IfFault it Q)
passed_on result end P Q e h f =
    let p = err_from_is_err_and result e in
    rw (p.1, p.2) (weaker end P Q f h)

-- the fact of a refusal
pub refused_with : (stop : Stop) (may : Due) (P : Due → Type 0) → stop ≡ Refused may → IfRefused stop P → P may
refused_with stop may P e h = subst (λ s. IfRefused s P) e h

-- where reading stops is told of the tokens, which were lent twice
pub fault_there : (tokens lent first left rest : List Tok) (end : TokensEnd) (may : Due) (fault : Fault) → lent ≡ tokens → first ≡ tokens → left ≡ rest
    → outcome (top []) first ≡ stuck rest may
    → ((bytes : List ℕ) → AreTokens bytes lent end → outcome (top []) lent ≡ stuck left may → stop (top []) [] lent end ≡ Some fault)
    → IsFaultOf tokens end fault
fault_there tokens lent first left rest end may fault a b e h told = λ bytes are.
    subst (λ t. stop (top []) [] t end ≡ Some fault) a
    (told bytes (subst (λ t. AreTokens bytes t end) (sym a) are) (ap (outcome (top [])) (a ∙ sym b) ∙ h ∙ ap (λ r. stuck r may) (sym e)))

-- bytes that are not UTF-8
pub bad_bytes : (bytes : List ℕ) (len : ℕ) (fault : Fault) → IsValidUpTo bytes len → fault ≡ record { code = 1; place = place_behind (take len bytes) }
    → HasFault bytes fault
bad_bytes bytes len fault x h = not_utf8 len (record { shorter = x.short; utf8 = x.front; longest = λ longer more fits. x.longest longer more }) h

pub reads_of : (text : List ℕ) (tokens : List Tok) (end : TokensEnd) (trees : List DeclTree) → IsUtf8 text → AreTokens text tokens end → IsEnd end
    → outcome (top []) tokens ≡ read trees → Reads text trees
reads_of text tokens end trees utf8 are over h =
    (trees_of_bytes text tokens over.place trees utf8 (subst (AreTokens text tokens) over.is_end are)).1 (run_read (top []) tokens trees h)

pub fault_of : (text : List ℕ) (tokens : List Tok) (end : TokensEnd) (fault : Fault) → IsUtf8 text → AreTokens text tokens end → IsFaultOf tokens end fault
    → HasFault text fault
fault_of text tokens end fault utf8 are h = (faults_of_bytes text tokens end fault utf8 are).1 (h text are)

-- where the bytes have a tree it is read
pub only_tree : (bytes : List ℕ) (result : Result File ParseEnd) → IfOk result (λ file. Reads bytes (file_tree file))
    → IfErr result (λ end. IfFault end (HasFault bytes)) → (trees : List DeclTree) → Reads bytes trees
    → MatchResult result (λ file. file_tree file ≡ trees) (λ end. end ≡ parse_end.NoMemory)
only_tree bytes (Ok file) r f trees h = one_tree bytes (file_tree file) trees r h
only_tree bytes (Err (parse_end.Fault fault)) r f trees h = absurd (no_fault bytes trees fault h f)
only_tree bytes (Err parse_end.NoMemory) r f trees h = refl

-- where they have a fault it is told
pub only_fault : (bytes : List ℕ) (result : Result File ParseEnd) → IfOk result (λ file. Reads bytes (file_tree file))
    → IfErr result (λ end. IfFault end (HasFault bytes)) → (fault : Fault) → HasFault bytes fault
    → IsErrAnd result (λ end. IfFault end (λ told. told ≡ fault))
only_fault bytes (Ok file) r f fault h = absurd (no_fault bytes (file_tree file) fault r h)
only_fault bytes (Err (parse_end.Fault told)) r f fault h = one_fault bytes told fault f h
only_fault bytes (Err parse_end.NoMemory) r f fault h = tt
