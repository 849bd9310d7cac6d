-- Names, labels and claims at the ends of their lists.
use Rattle.machine_stands.proofs.Fronts.{one_last, grow, every, FrontOf, LastOf, WholeOf, front_is_whole}
use Rattle.machine_stands.proofs.Opened.{Sign, Expressions}
use Rattle.machine_stands.proofs.Inside.{OpenNames, Names, LabelIs, LetIs, Label-of}
use Rattle.machine_stands.proofs.Stands.{Stands}
use Rattle.machine_stands.proofs.Ends.{at_step, name_step}
use Rattle.slang_grammar.specs.Parts.{IsPlain, one_name, IsLabel, label_tree}
use Rattle.slang_grammar.specs.Expressions.{variable, expr_tokens, IsGrouped, expr_tree}
use Rattle.slang_grammar.specs.Proofs.{one_label}
use Rattle.slang_machine.specs.Open.{Labelled}
use Rattle.slang_machine.specs.States.{NamesOf, let_arrow}
use Rattle.slang_machine.specs.Expressions.{is, is_name, name_of}
use Rattle.slang_tree.specs.ExprTree.{ExprTree}
use Rattle.slang_tree.specs.declared.place.Place.{Place}
use Rattle.slang_tree.specs.declared.expression.Name.{Name}
use Rattle.slang_tree.specs.declared.statement.Label.{Label}
use Rattle.slang_tokens.specs.Tok.{Tok, sign}
use Rattle.slang_tokens.proofs.Bare.{IsBare}
use Rattle.std.proofs.Common.{◌≡◌, true, List, [], ◌∷◌, ◌++◌, Option, Some, None, refl, ap}
use Rattle.std.specs.Option.{option_map, IfSome}
use Rattle.slang_lexer.specs.declared.token.TokenKind.TheVariants as kind

pub mapped : {A B : Type 0} (o : Option A) (Q : A → Type 0) (f : A → B) (P : B → Type 0) → IfSome o Q → ((a : A) → Q a → P (f a)) → IfSome (option_map f o) P
mapped (Some a) Q f P h k = k a h
mapped None Q f P h k = tt

pub exprs_at_paren : (K : List Tok → Type 0) (trees : List ExprTree) (token : Tok) (rest : List Tok) → IsBare token → is kind.RightParen token ≡ true
    → Expressions K trees (token ∷ rest) → WholeOf kind.Comma expr_tokens IsGrouped expr_tree K trees (sign kind.RightParen token.place ∷ rest)
exprs_at_paren K trees token rest bare b h =
    front_is_whole kind.Comma expr_tokens IsGrouped expr_tree K trees (sign kind.RightParen token.place ∷ rest)
    (at_step kind.RightParen token rest (Expressions K trees) refl refl bare b h)

pub one_name_last : (all : List Tok) (of : NamesOf) (names : List Name) (token : Tok) (rest : List Tok) → is_name token ≡ true → Names all of names (token ∷ rest)
    → LastOf kind.Comma one_name IsPlain (λ (n : Name). n) (Sign kind.LeftParen (OpenNames all of)) (names ++ name_of token ∷ []) rest
one_name_last all of names token rest b h =
    let n = name_step token rest (Names all of names) b h in
    one_last kind.Comma one_name (every IsPlain) (grow (λ (n : Name). n)) [] (Sign kind.LeftParen (OpenNames all of)) names (name_of token) rest n.plain n.opened

pub one_label_last : (K : List Tok → Type 0) (labels : List Label) (label : Label) (rest : List Tok)
    → LabelIs label (FrontOf kind.Comma one_label IsLabel label_tree K labels) rest
    → LastOf kind.Comma one_label IsLabel label_tree K (labels ++ label ∷ []) rest
one_label_last K labels label rest h = record {
  before = labels;
  member = h.text;
  fits = h.fits;
  same = ap (λ l. labels ++ l ∷ []) h.same;
  opened = h.opened;
}

pub let_text_is : (all : List Tok) (bound : Name) (at : Labelled) (arrow : Place) (rest : List Tok) → Stands all (let_arrow bound at) (sign kind.FatArrow arrow ∷ rest)
    → LetIs bound (Label-of all at) rest
let_text_is all bound at arrow rest h =
    let ty = h.opened in
    let colon = ty.opened in
    let n = colon.opened in
    let left = n.opened in
    let outer = left.opened in
    let word = outer.opened in
    record {
      text = record {
        word = word.place;
        outer = outer.place;
        left = left.place;
        variable = bound;
        colon = colon.place;
        ty = ty.place;
        right = h.place;
        arrow = arrow;
      };
      plain = n.plain;
      same = refl;
      opened = word.opened;
    }
