-- Constants, parameters and fields whose tokens stand at other places.
use Rattle.std.proofs.Common.{◌≡◌, [], ◌∷◌, ◌++◌, Option, refl}
use Rattle.slang_lexer.specs.declared.token.TokenKind.TheVariants as kind
use Rattle.slang_tree.specs.declared.place.Place.{Place}
use Rattle.slang_tree.specs.DeclTree as t
use Rattle.slang_tree.specs.DeclTree.{ConstTree, TypedName}
use Rattle.slang_tokens.specs.Tok.{sign}
use Rattle.slang_grammar.specs.Parts.{optional, ElementText, element_tokens}
use Rattle.slang_grammar.specs.Declarations.{ConstText, const_number, const_minus, const_truth, const_falsity, const_sequence, const_record, ConstsText, no_consts, last_const, const_then, const_tokens, consts_tokens, HasConst, HasElements, IsConst, AreConsts, const_tree, consts_tree, ParamText, param_tokens, IsParam, param_tree, FieldText, val_word, field_tokens, IsField, field_tree}
use Rattle.print_expressions.specs.Bare.{nowhere, bare_name}
use Rattle.print_declarations.specs.Bare.{bare_const, bare_consts, bare_typed}
use Rattle.std.proofs.Common.{Some, None}
use Rattle.moved_texts.proofs.Lists.{named_at, first, split, joined, consed, only, nothing, Moves, Same, IfAlike, move_optional}
use Rattle.moved_texts.proofs.Expressions.{ElementAlike, move_element, if_element, move_typed}

-- ---- constants

abbrev pub ConstAlike : ConstText → ConstText → Type 0
ConstAlike = Same ConstText ConstTree IsConst (λ c. bare_const (const_tree c))

record ConstsAlike (a b : ConstsText) : Type 0 where
  some : HasConst a → HasConst b
  fine : AreConsts a → AreConsts b
  tree : bare_consts (consts_tree b) ≡ bare_consts (consts_tree a)

elements_alike : (a b : Option ElementText) (x y : ConstsText) → IfAlike ElementAlike a b → ConstsAlike x y → HasElements a x → HasElements b y
elements_alike None None x y h k f = k.some f
elements_alike None (Some b) x y h k f = absurd h
elements_alike (Some a) None x y h k f = absurd h
elements_alike (Some a) (Some b) x y h k f = h.fine f

mutual
  pub move_const : (c : ConstText) → Moves ConstText const_tokens ConstAlike c
  move_const (const_number digits place) tokens h =
      let a = only h in record { it = const_number digits a.place; spelled = a.is; alike = record { fine = λ f. f; tree = refl } }
  move_const (const_minus minus digits place) tokens h =
      let a = first h in
      let z = only a.behind in
      record { it = const_minus a.place digits z.place; spelled = consed a.is z.is; alike = record { fine = λ f. f; tree = refl } }
  move_const (const_truth place) tokens h = let a = only h in record { it = const_truth a.place; spelled = a.is; alike = record { fine = λ f. f; tree = refl } }
  move_const (const_falsity place) tokens h =
      let a = only h in record { it = const_falsity a.place; spelled = a.is; alike = record { fine = λ f. f; tree = refl } }
  move_const (const_sequence word ty left elements right) tokens h =
      let a = first h in
      let o = split (optional element_tokens ty ++ sign kind.LeftParen left ∷ consts_tokens elements) (sign kind.RightParen right ∷ []) a.behind in
      let s = split (optional element_tokens ty) (sign kind.LeftParen left ∷ consts_tokens elements) o.first in
      let y = move_optional element_tokens ElementAlike move_element ty s.left s.first in
      let b = first s.second in
      let m = move_consts elements b.rest b.behind in
      let z = only o.second in
      record {
        it = const_sequence a.place y.it b.place m.it z.place;
        spelled = consed a.is (joined o.is (joined s.is y.spelled (consed b.is m.spelled)) z.is);
        alike = record {
          fine = λ f. (elements_alike ty y.it elements m.it y.alike m.alike f.0, m.alike.fine f.1);
          tree = λ i. t.const_sequence nowhere (if_element ty y.it y.alike i) (m.alike.tree i);
        };
      }
  move_const (const_record n left fields right) tokens h =
      let a = first h in
      let b = first a.behind in
      let s = split (consts_tokens fields) (sign kind.RightParen right ∷ []) b.behind in
      let m = move_consts fields s.left s.first in
      let z = only s.second in
      record {
        it = const_record (named_at n a.place) b.place m.it z.place;
        spelled = consed a.is (consed b.is (joined s.is m.spelled z.is));
        alike = record { fine = λ f. (f.0, m.alike.some f.1, m.alike.fine f.2); tree = λ i. t.const_record (bare_name n) (m.alike.tree i) };
      }

  move_consts : (c : ConstsText) → Moves ConstsText consts_tokens ConstsAlike c
  move_consts no_consts tokens h = record { it = no_consts; spelled = nothing h; alike = record { some = λ f. f; fine = λ f. f; tree = refl } }
  move_consts (last_const c) tokens h =
      let m = move_const c tokens h in
      record {
        it = last_const m.it;
        spelled = m.spelled;
        alike = record { some = λ f. tt; fine = m.alike.fine; tree = λ i. t.const_then (m.alike.tree i) t.no_consts };
      }
  move_consts (const_then c comma more) tokens h =
      let s = split (const_tokens c) (sign kind.Comma comma ∷ consts_tokens more) h in
      let m = move_const c s.left s.first in
      let b = first s.second in
      let r = move_consts more b.rest b.behind in
      record {
        it = const_then m.it b.place r.it;
        spelled = joined s.is m.spelled (consed b.is r.spelled);
        alike = record {
          some = λ f. tt;
          fine = λ f. (m.alike.fine f.0, r.alike.fine f.1);
          tree = λ i. t.const_then (m.alike.tree i) (r.alike.tree i);
        };
      }

-- ---- parameters and fields

abbrev pub ParamAlike : ParamText → ParamText → Type 0
ParamAlike = Same ParamText TypedName IsParam (λ p. bare_typed (param_tree p))

pub move_param : (p : ParamText) → Moves ParamText param_tokens ParamAlike p
move_param p tokens h =
    let a = first h in
    let m = move_typed p.ty a.rest a.behind in
    record {
      it = record { written = named_at p.written a.place; ty = m.it };
      spelled = consed a.is m.spelled;
      alike = record { fine = λ f. (f.0, m.alike.fine f.1); tree = λ i. record { written = bare_name p.written; ty = m.alike.tree i } };
    }

abbrev Any : Place → Place → Type 0
Any p q = Unit {0}

move_val : (p : Place) → Moves Place val_word Any p
move_val p tokens h = let a = only h in record { it = a.place; spelled = a.is; alike = tt }

abbrev pub FieldAlike : FieldText → FieldText → Type 0
FieldAlike = Same FieldText TypedName IsField (λ f. bare_typed (field_tree f))

pub move_field : (f : FieldText) → Moves FieldText field_tokens FieldAlike f
move_field f tokens h =
    let s = split (optional val_word f.fixed) (param_tokens f.param) h in
    let v = move_optional val_word Any move_val f.fixed s.left s.first in
    let m = move_param f.param s.right s.second in
    record {
      it = record { fixed = v.it; param = m.it };
      spelled = joined s.is v.spelled m.spelled;
      alike = record { fine = m.alike.fine; tree = m.alike.tree };
    }
