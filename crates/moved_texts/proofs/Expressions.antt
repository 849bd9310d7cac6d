-- Types and expressions whose tokens stand at other places.
use Rattle.std.proofs.Common.{◌≡◌, ◌<◌, ◌≤◌, inl, inr, List, [], ◌∷◌, ◌++◌, map, Option, Some, None, refl, sym, ap, ◌∙◌, subst}
use Rattle.std.specs.Option.{option_map}
use Rattle.std.specs.List.{AllByRecursion}
use Rattle.slang_lexer.specs.declared.token.TokenKind.TheVariants as kind
use Rattle.slang_tree.specs.declared.place.Place.{Place}
use Rattle.slang_tree.specs.declared.expression.Name.{Name}
use Rattle.slang_tree.specs.TypeTree.{TypeTree, sequence_name}
use Rattle.slang_tree.specs.ExprTree.{ExprTree}
use Rattle.slang_tree.specs.ExprTree as e
use Rattle.slang_tokens.specs.Tok.{sign}
use Rattle.slang_grammar.specs.declared.operator.Side.{Side}
use Rattle.slang_grammar.specs.declared.operator.Side.TheVariants.{Left, Right}
use Rattle.slang_grammar.specs.declared.operator.Prefix.{Prefix}
use Rattle.slang_grammar.specs.declared.operator.Prefix.TheVariants as prefix
use Rattle.slang_grammar.specs.declared.operator.Infix.{Infix}
use Rattle.slang_grammar.specs.Operators.{prefix_level}
use Rattle.slang_grammar.specs.Parts.{members, listed, optional, HasMember, IsPlain, NamesText, one_name, names_tokens, TypeText, z_type, b_type, unit_type, sequence_type, record_type, type_tokens, IsType, type_tree, TypedText, typed_tokens, IsTyped, typed_tree, ElementText, element_tokens, IsElement, element_tree}
use Rattle.slang_grammar.specs.Expressions.{quantifier_of, bound_tokens, indices_token, ExprText, number, truth, falsity, variable, result, entry_value, old_value, sequence, quantified, quantified_indices, bracketed, application, update, field, prefixed, binary, ExprsText, no_exprs, last_expr, expr_then, expr_tokens, exprs_tokens, level, joins, IsOperand, IsGrouped, AreGrouped, prefix_tree, expr_tree, exprs_tree, ClaimsText, claims_tokens, HasExpr, AreClaims, expr_trees}
use Rattle.print_expressions.specs.Bare.{nowhere, bare_name, bare_type, bare_expr, bare_exprs}
use Rattle.moved_texts.proofs.Lists.{named_at, first, split, joined, consed, only, nothing, Moves, Same, IfAlike, move_optional, if_fine, move_listed, all_fine, all_same, some_alike}

-- ---- names

abbrev pub NameAlike : Name → Name → Type 0
NameAlike = Same Name Name IsPlain bare_name

pub move_name : (n : Name) → Moves Name one_name NameAlike n
move_name n tokens h = let a = only h in record { it = named_at n a.place; spelled = a.is; alike = record { fine = λ f. f; tree = refl } }

abbrev pub AreNames : NamesText → Type 0
AreNames n = HasMember n.names × AllByRecursion IsPlain (members n.names)

abbrev pub NamesAlike : NamesText → NamesText → Type 0
NamesAlike = Same NamesText (List Name) AreNames (λ n. map bare_name (members n.names))

pub move_names : (n : NamesText) → Moves NamesText names_tokens NamesAlike n
move_names n tokens h =
    let a = first h in
    let s = split (listed kind.Comma one_name n.names) (sign kind.RightParen n.right ∷ []) a.behind in
    let l = move_listed kind.Comma one_name NameAlike move_name n.names s.left s.first in
    let z = only s.second in
    record {
      it = record { left = a.place; names = l.it; right = z.place };
      spelled = consed a.is (joined s.is l.spelled z.is);
      alike = record {
        fine = λ f. (
          some_alike NameAlike (members n.names) (members l.it) l.alike f.0,
          all_fine IsPlain bare_name (members n.names) (members l.it) l.alike f.1,
        );
        tree = all_same IsPlain bare_name (members n.names) (members l.it) l.alike;
      };
    }

-- ---- types

abbrev pub TypeAlike : TypeText → TypeText → Type 0
TypeAlike = Same TypeText TypeTree IsType (λ t. bare_type (type_tree t))

pub move_type : (t : TypeText) → Moves TypeText type_tokens TypeAlike t
move_type (z_type place) tokens h = let a = only h in record { it = z_type a.place; spelled = a.is; alike = record { fine = λ f. f; tree = refl } }
move_type (b_type place) tokens h = let a = only h in record { it = b_type a.place; spelled = a.is; alike = record { fine = λ f. f; tree = refl } }
move_type (unit_type place) tokens h = let a = only h in record { it = unit_type a.place; spelled = a.is; alike = record { fine = λ f. f; tree = refl } }
move_type (sequence_type word left element right) tokens h =
    let a = first h in
    let b = first a.behind in
    let s = split (type_tokens element) (sign kind.RightBracket right ∷ []) b.behind in
    let t = move_type element s.left s.first in
    let z = only s.second in
    record {
      it = sequence_type a.place b.place t.it z.place;
      spelled = consed a.is (consed b.is (joined s.is t.spelled z.is));
      alike = record { fine = t.alike.fine; tree = λ i. sequence_name nowhere (t.alike.tree i) };
    }
move_type (record_type written) tokens h =
    let a = only h in record { it = record_type (named_at written a.place); spelled = a.is; alike = record { fine = λ f. f; tree = refl } }

abbrev pub TypedAlike : TypedText → TypedText → Type 0
TypedAlike = Same TypedText TypeTree IsTyped (λ t. bare_type (typed_tree t))

pub move_typed : (t : TypedText) → Moves TypedText typed_tokens TypedAlike t
move_typed t tokens h =
    let a = first h in
    let m = move_type t.ty a.rest a.behind in
    record {
      it = record { colon = a.place; ty = m.it };
      spelled = consed a.is m.spelled;
      alike = record { fine = m.alike.fine; tree = m.alike.tree };
    }

abbrev pub ElementAlike : ElementText → ElementText → Type 0
ElementAlike = Same ElementText TypeTree IsElement (λ t. bare_type (element_tree t))

pub move_element : (t : ElementText) → Moves ElementText element_tokens ElementAlike t
move_element t tokens h =
    let a = first h in
    let s = split (type_tokens t.ty) (sign kind.RightBracket t.right ∷ []) a.behind in
    let m = move_type t.ty s.left s.first in
    let z = only s.second in
    record {
      it = record { left = a.place; ty = m.it; right = z.place };
      spelled = consed a.is (joined s.is m.spelled z.is);
      alike = record { fine = m.alike.fine; tree = m.alike.tree };
    }

pub if_typed : (a b : Option TypedText) → IfAlike TypedAlike a b →
    option_map bare_type (option_map typed_tree b) ≡ option_map bare_type (option_map typed_tree a)
if_typed None None h = refl
if_typed None (Some b) h = absurd h
if_typed (Some a) None h = absurd h
if_typed (Some a) (Some b) h = ap Some h.tree

pub if_element : (a b : Option ElementText) → IfAlike ElementAlike a b →
    option_map bare_type (option_map element_tree b) ≡ option_map bare_type (option_map element_tree a)
if_element None None h = refl
if_element None (Some b) h = absurd h
if_element (Some a) None h = absurd h
if_element (Some a) (Some b) h = ap Some h.tree

-- ---- expressions

pub record ExprAlike (a b : ExprText) : Type 0 where
  pub level : level b ≡ level a
  pub joins : joins b ≡ joins a
  pub fine : IsGrouped a → IsGrouped b
  pub tree : bare_expr (expr_tree b) ≡ bare_expr (expr_tree a)

pub record ExprsAlike (a b : ExprsText) : Type 0 where
  pub some : HasExpr a → HasExpr b
  pub fine : AreGrouped a → AreGrouped b
  pub tree : bare_exprs (exprs_tree b) ≡ bare_exprs (exprs_tree a)
  pub trees : map bare_expr (expr_trees b) ≡ map bare_expr (expr_trees a)

operand_alike : (side : Side) (row : Infix) (a b : ExprText) → ExprAlike a b → IsOperand side row a → IsOperand side row b
operand_alike side row a b h (inl l) = inl (subst (λ n. row.level < n) (sym h.level) l)
operand_alike side row a b h (inr p) = inr (h.level ∙ p.0, p.1, h.joins ∙ p.2)

prefix_alike : (by : Prefix) (p q : Place) (a b : ExprTree) → bare_expr b ≡ bare_expr a → bare_expr (prefix_tree by p b) ≡ bare_expr (prefix_tree by q a)
prefix_alike prefix.Not p q a b h = ap (e.negation nowhere) h
prefix_alike prefix.Minus p q a b h = ap (e.minus nowhere) h

mutual
  pub move_expr : (text : ExprText) → Moves ExprText expr_tokens ExprAlike text
  move_expr (number digits place) tokens h =
      let a = only h in record { it = number digits a.place; spelled = a.is; alike = record { level = refl; joins = refl; fine = λ f. f; tree = refl } }
  move_expr (truth place) tokens h =
      let a = only h in record { it = truth a.place; spelled = a.is; alike = record { level = refl; joins = refl; fine = λ f. f; tree = refl } }
  move_expr (falsity place) tokens h =
      let a = only h in record { it = falsity a.place; spelled = a.is; alike = record { level = refl; joins = refl; fine = λ f. f; tree = refl } }
  move_expr (variable n) tokens h =
      let a = only h in record { it = variable (named_at n a.place); spelled = a.is; alike = record { level = refl; joins = refl; fine = λ f. f; tree = refl } }
  move_expr (result word ty) tokens h =
      let a = first h in
      let t = move_optional element_tokens ElementAlike move_element ty a.rest a.behind in
      record {
        it = result a.place t.it;
        spelled = consed a.is t.spelled;
        alike = record {
          level = refl;
          joins = refl;
          fine = if_fine IsElement (λ x. bare_type (element_tree x)) ty t.it t.alike;
          tree = λ i. e.result nowhere (if_element ty t.it t.alike i);
        };
      }
  move_expr (entry_value word left n right) tokens h =
      let a = first h in
      let b = first a.behind in
      let c = first b.behind in
      let z = only c.behind in
      record {
        it = entry_value a.place b.place (named_at n c.place) z.place;
        spelled = consed a.is (consed b.is (consed c.is z.is));
        alike = record { level = refl; joins = refl; fine = λ f. f; tree = refl };
      }
  move_expr (old_value word left n right) tokens h =
      let a = first h in
      let b = first a.behind in
      let c = first b.behind in
      let z = only c.behind in
      record {
        it = old_value a.place b.place (named_at n c.place) z.place;
        spelled = consed a.is (consed b.is (consed c.is z.is));
        alike = record { level = refl; joins = refl; fine = λ f. f; tree = refl };
      }
  move_expr (sequence word ty left elements right) tokens h =
      let a = first h in
      let o = split (optional element_tokens ty ++ sign kind.LeftParen left ∷ exprs_tokens elements) (sign kind.RightParen right ∷ []) a.behind in
      let s = split (optional element_tokens ty) (sign kind.LeftParen left ∷ exprs_tokens elements) o.first in
      let t = move_optional element_tokens ElementAlike move_element ty s.left s.first in
      let b = first s.second in
      let m = move_exprs elements b.rest b.behind in
      let z = only o.second in
      record {
        it = sequence a.place t.it b.place m.it z.place;
        spelled = consed a.is (joined o.is (joined s.is t.spelled (consed b.is m.spelled)) z.is);
        alike = record {
          level = refl;
          joins = refl;
          fine = λ f. (if_fine IsElement (λ x. bare_type (element_tree x)) ty t.it t.alike f.0, m.alike.fine f.1);
          tree = λ i. e.sequence nowhere (if_element ty t.it t.alike i) (m.alike.tree i);
        };
      }
  move_expr (quantified by word left low until high right bound body) tokens h =
      let a = first h in
      let b = first a.behind in
      let o = split (expr_tokens low ++ sign kind.Until until ∷ expr_tokens high)
      (sign kind.RightParen right ∷ bound_tokens bound (expr_tokens body)) b.behind in
      let s = split (expr_tokens low) (sign kind.Until until ∷ expr_tokens high) o.first in
      let l = move_expr low s.left s.first in
      let c = first s.second in
      let u = move_expr high c.rest c.behind in
      let d = first o.second in
      let v = first d.behind in
      let n = first v.behind in
      let w = first n.behind in
      let q = split (expr_tokens body) (sign kind.RightParen bound.right ∷ []) w.behind in
      let m = move_expr body q.left q.first in
      let z = only q.second in
      record {
        it = quantified by a.place b.place l.it c.place u.it d.place
            (record { left = v.place; variable = named_at bound.variable n.place; arrow = w.place; right = z.place }) m.it;
        spelled = consed a.is (consed b.is (joined o.is (joined s.is l.spelled (consed c.is u.spelled)) (consed d.is
            (consed v.is (consed n.is (consed w.is (joined q.is m.spelled z.is)))))));
        alike = record {
          level = refl;
          joins = refl;
          fine = λ f. (l.alike.fine f.0, u.alike.fine f.1, f.2, m.alike.fine f.3);
          tree = λ i. e.quantified nowhere (quantifier_of by) (l.alike.tree i) (u.alike.tree i) (bare_name bound.variable) (m.alike.tree i);
        };
      }
  move_expr (quantified_indices by word left head dot indices right bound body) tokens h =
      let a = first h in
      let b = first a.behind in
      let s = split (expr_tokens head)
      (sign kind.Dot dot ∷ indices_token indices ∷ sign kind.RightParen right ∷ bound_tokens bound (expr_tokens body)) b.behind in
      let l = move_expr head s.left s.first in
      let c = first s.second in
      let x = first c.behind in
      let d = first x.behind in
      let v = first d.behind in
      let n = first v.behind in
      let w = first n.behind in
      let q = split (expr_tokens body) (sign kind.RightParen bound.right ∷ []) w.behind in
      let m = move_expr body q.left q.first in
      let z = only q.second in
      record {
        it = quantified_indices by a.place b.place l.it c.place x.place d.place
            (record { left = v.place; variable = named_at bound.variable n.place; arrow = w.place; right = z.place }) m.it;
        spelled = consed a.is (consed b.is (joined s.is l.spelled (consed c.is (consed x.is (consed d.is
            (consed v.is (consed n.is (consed w.is (joined q.is m.spelled z.is)))))))));
        alike = record {
          level = refl;
          joins = refl;
          fine = λ f. (l.alike.level ∙ f.0, l.alike.fine f.1, f.2, m.alike.fine f.3);
          tree = λ i. e.quantified_indices nowhere (quantifier_of by) (l.alike.tree i) (bare_name bound.variable) (m.alike.tree i);
        };
      }
  move_expr (bracketed left inner right) tokens h =
      let a = first h in
      let s = split (expr_tokens inner) (sign kind.RightParen right ∷ []) a.behind in
      let m = move_expr inner s.left s.first in
      let z = only s.second in
      record {
        it = bracketed a.place m.it z.place;
        spelled = consed a.is (joined s.is m.spelled z.is);
        alike = record { level = refl; joins = refl; fine = m.alike.fine; tree = m.alike.tree };
      }
  move_expr (application head left arguments right) tokens h =
      let o = split (expr_tokens head ++ sign kind.LeftParen left ∷ exprs_tokens arguments) (sign kind.RightParen right ∷ []) h in
      let s = split (expr_tokens head) (sign kind.LeftParen left ∷ exprs_tokens arguments) o.first in
      let l = move_expr head s.left s.first in
      let b = first s.second in
      let m = move_exprs arguments b.rest b.behind in
      let z = only o.second in
      record {
        it = application l.it b.place m.it z.place;
        spelled = joined o.is (joined s.is l.spelled (consed b.is m.spelled)) z.is;
        alike = record {
          level = refl;
          joins = refl;
          fine = λ f. (l.alike.level ∙ f.0, l.alike.fine f.1, m.alike.fine f.2);
          tree = λ i. e.application nowhere (l.alike.tree i) (m.alike.tree i);
        };
      }
  move_expr (update head left index arrow element right) tokens h =
      let o = split (expr_tokens head ++ sign kind.LeftParen left ∷ expr_tokens index ++ sign kind.TildeArrow arrow ∷ expr_tokens element)
      (sign kind.RightParen right ∷ []) h in
      let q = split (expr_tokens head ++ sign kind.LeftParen left ∷ expr_tokens index) (sign kind.TildeArrow arrow ∷ expr_tokens element) o.first in
      let s = split (expr_tokens head) (sign kind.LeftParen left ∷ expr_tokens index) q.first in
      let l = move_expr head s.left s.first in
      let b = first s.second in
      let x = move_expr index b.rest b.behind in
      let c = first q.second in
      let m = move_expr element c.rest c.behind in
      let z = only o.second in
      record {
        it = update l.it b.place x.it c.place m.it z.place;
        spelled = joined o.is (joined q.is (joined s.is l.spelled (consed b.is x.spelled)) (consed c.is m.spelled)) z.is;
        alike = record {
          level = refl;
          joins = refl;
          fine = λ f. (l.alike.level ∙ f.0, l.alike.fine f.1, x.alike.fine f.2, m.alike.fine f.3);
          tree = λ i. e.update nowhere (l.alike.tree i) (x.alike.tree i) (m.alike.tree i);
        };
      }
  move_expr (field head dot n) tokens h =
      let s = split (expr_tokens head) (sign kind.Dot dot ∷ one_name n) h in
      let l = move_expr head s.left s.first in
      let b = first s.second in
      let z = only b.behind in
      record {
        it = field l.it b.place (named_at n z.place);
        spelled = joined s.is l.spelled (consed b.is z.is);
        alike = record {
          level = refl;
          joins = refl;
          fine = λ f. (l.alike.level ∙ f.0, l.alike.fine f.1, f.2);
          tree = λ i. e.field nowhere (l.alike.tree i) (bare_name n);
        };
      }
  move_expr (prefixed by place operand) tokens h =
      let a = first h in
      let m = move_expr operand a.rest a.behind in
      record {
        it = prefixed by a.place m.it;
        spelled = consed a.is m.spelled;
        alike = record {
          level = refl;
          joins = refl;
          fine = λ f. (subst (λ n. prefix_level ≤ n) (sym m.alike.level) f.0, m.alike.fine f.1);
          tree = prefix_alike by a.place place (expr_tree operand) (expr_tree m.it) m.alike.tree;
        };
      }
  move_expr (binary left row place right) tokens h =
      let s = split (expr_tokens left) (sign row.sign place ∷ expr_tokens right) h in
      let l = move_expr left s.left s.first in
      let b = first s.second in
      let r = move_expr right b.rest b.behind in
      record {
        it = binary l.it row b.place r.it;
        spelled = joined s.is l.spelled (consed b.is r.spelled);
        alike = record {
          level = refl;
          joins = refl;
          fine = λ f. (
            f.0,
            operand_alike Left row left l.it l.alike f.1,
            operand_alike Right row right r.it r.alike f.2,
            l.alike.fine f.3,
            r.alike.fine f.4,
          );
          tree = λ i. e.binary nowhere row.operator (l.alike.tree i) (r.alike.tree i);
        };
      }

  pub move_exprs : (texts : ExprsText) → Moves ExprsText exprs_tokens ExprsAlike texts
  move_exprs no_exprs tokens h =
      record { it = no_exprs; spelled = nothing h; alike = record { some = λ f. f; fine = λ f. f; tree = refl; trees = refl } }
  move_exprs (last_expr text) tokens h =
      let m = move_expr text tokens h in
      record {
        it = last_expr m.it;
        spelled = m.spelled;
        alike = record {
          some = λ f. tt;
          fine = m.alike.fine;
          tree = λ i. e.expr_then (m.alike.tree i) e.no_exprs;
          trees = λ i. m.alike.tree i ∷ [];
        };
      }
  move_exprs (expr_then text comma more) tokens h =
      let s = split (expr_tokens text) (sign kind.Comma comma ∷ exprs_tokens more) h in
      let m = move_expr text s.left s.first in
      let b = first s.second in
      let r = move_exprs more b.rest b.behind in
      record {
        it = expr_then m.it b.place r.it;
        spelled = joined s.is m.spelled (consed b.is r.spelled);
        alike = record {
          some = λ f. tt;
          fine = λ f. (m.alike.fine f.0, r.alike.fine f.1);
          tree = λ i. e.expr_then (m.alike.tree i) (r.alike.tree i);
          trees = λ i. m.alike.tree i ∷ r.alike.trees i;
        };
      }

-- ---- claims

abbrev pub ClaimsAlike : ClaimsText → ClaimsText → Type 0
ClaimsAlike = Same ClaimsText (List ExprTree) AreClaims (λ c. map bare_expr (expr_trees c.claims))

pub move_claims : (c : ClaimsText) → Moves ClaimsText claims_tokens ClaimsAlike c
move_claims c tokens h =
    let a = first h in
    let s = split (exprs_tokens c.claims) (sign kind.RightParen c.right ∷ []) a.behind in
    let m = move_exprs c.claims s.left s.first in
    let z = only s.second in
    record {
      it = record { left = a.place; claims = m.it; right = z.place };
      spelled = consed a.is (joined s.is m.spelled z.is);
      alike = record { fine = λ f. (m.alike.some f.0, m.alike.fine f.1); tree = m.alike.trees };
    }
