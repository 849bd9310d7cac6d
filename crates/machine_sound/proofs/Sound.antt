-- What the machine reads is a text.
use Rattle.machine_stands.proofs.Fronts.{none_yet, grow, every, WholeOf, front_is_whole, last_is_whole}
use Rattle.machine_stands.proofs.Stands.{Stands}
use Rattle.machine_sound.proofs.Decls.{path_ends}
use Rattle.machine_sound.proofs.Next.{stands_next}
use Rattle.slang_grammar.specs.Declarations.{decl_tokens, IsDecl, decl_tree}
use Rattle.slang_grammar.specs.Texts.{file_tokens, InGrammar}
use Rattle.slang_machine.specs.States.{State, top, ended, path_end}
use Rattle.slang_machine.specs.Declarations.{import_decl}
use Rattle.slang_machine.specs.Machine.{next, finish, moved, run}
use Rattle.slang_tree.specs.DeclTree.{DeclTree}
use Rattle.slang_tokens.specs.Tok.{Tok}
use Rattle.slang_tokens.proofs.Bare.{IsBare, bare_tokens}
use Rattle.std.proofs.Common.{◌≡◌, List, [], ◌∷◌, ◌++◌, Option, Some, None, refl, sym, ◌∙◌, subst, append-nil}
use Rattle.std.specs.Prelude.{option_and_then}
use Rattle.std.specs.List.{AllByRecursion}
use Rattle.std.specs.Option.{IfSome}
use Rattle.slang_lexer.specs.declared.token.TokenKind.TheVariants as kind
use Rattle.machine_sound.specs.Laws.{TextsAreInGrammar}

none_is_some : {A : Type 0} (a : A) → None ≡ Some a → ⊥
none_is_some a h = cc (h)

some_same : {A : Type 0} {x y : A} → Some x ≡ Some y → x ≡ y
some_same h = cc

text_of : (all : List Tok) (done : List DeclTree) → WholeOf kind.Newline decl_tokens IsDecl decl_tree (λ r. all ≡ r) done [] → InGrammar all done
text_of all done h = record {
  text = h.list;
  well_formed = h.each;
  spelled = sym (h.opened ∙ append-nil (file_tokens h.list));
  shaped = h.same;
}

-- where the machine ends, the tokens are a text
finished : (all : List Tok) (state : State) (file : List DeclTree) → Stands all state [] → finish state ≡ Some file → InGrammar all file
finished all (top done) file h e = subst (InGrammar all) (some_same e) (text_of all done (front_is_whole _ _ _ _ _ done [] h))
finished all (ended done) file h e = subst (InGrammar all) (some_same e) (text_of all done (last_is_whole _ _ _ _ _ done [] h))
finished all (path_end place path done) file h e =
    subst (InGrammar all) (some_same e) (text_of all (import_decl place path done) (last_is_whole _ _ _ _ _ (import_decl place path done) []
    (path_ends all place path done [] h)))
finished all _ file h e = absurd (none_is_some file e)

-- what is read from a state that stands is a text
pub onward : (all : List Tok) (tokens : List Tok) (state : State) (file : List DeclTree) → AllByRecursion IsBare tokens → Stands all state tokens
    → run state tokens ≡ Some file → InGrammar all file
onward all [] state file bare h e = finished all state file h e
onward all (token ∷ tokens) state file bare h e =
    by (next state token) (stands_next all state token tokens bare.0 h) e (λ s k r. onward all tokens s file bare.1 k r) where
      by : (o : Option State) → IfSome o (λ s. Stands all s tokens) → option_and_then (λ s. run s tokens) o ≡ Some file
          → ((s : State) → Stands all s tokens → run s tokens ≡ Some file → InGrammar all file) → InGrammar all file
      by (Some s) k r so = so s k r
      by None k r so = absurd (none_is_some file r)

-- the state behind a front stands
pub moved_stands : (all : List Tok) (front : List Tok) (rest : List Tok) (state : State) → AllByRecursion IsBare front → Stands all state (front ++ rest)
    → IfSome (moved state front) (λ s. Stands all s rest)
moved_stands all [] rest state bare h = h
moved_stands all (token ∷ front) rest state bare h =
    by (next state token) (stands_next all state token (front ++ rest) bare.0 h) (λ s k. moved_stands all front rest s bare.1 k) where
      by : (o : Option State) → IfSome o (λ s. Stands all s (front ++ rest)) → ((s : State) → Stands all s (front ++ rest)
          → IfSome (moved s front) (λ s. Stands all s rest)) → IfSome (option_and_then (λ s. moved s front) o) (λ s. Stands all s rest)
      by (Some s) k so = so s k
      by None k so = tt

-- before the first token nothing stands
pub begins : (all : List Tok) → Stands all (top []) all
begins all = none_yet kind.Newline decl_tokens (every IsDecl) (grow decl_tree) [] (λ r. all ≡ r) all refl

-- what the machine reads of tokens is in the grammar
pub sound_tokens : (tokens : List Tok) (file : List DeclTree) → AllByRecursion IsBare tokens → run (top []) tokens ≡ Some file → InGrammar tokens file
sound_tokens tokens file bare h = onward tokens tokens (top []) file bare (begins tokens) h

pub sound : TextsAreInGrammar
sound bytes tokens end file are h = sound_tokens tokens file (bare_tokens bytes tokens end are) h
