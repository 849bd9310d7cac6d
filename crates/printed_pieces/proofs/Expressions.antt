-- Types and expressions are laid out so that their tokens may stand beside each other.
use Rattle.std.proofs.Common.{◌≡◌, Bool, true, false, not, ◌&&◌, List, [], ◌∷◌, Option, Some, None, refl}
use Rattle.std.specs.Prelude.{nat_abs, nat_le, nat_eq, codes}
use Rattle.std.specs.Option.{option_map}
use Rattle.std.proofs.lemmas.Bool.{and_parts}
use Rattle.slang_lexer.specs.declared.token.TokenKind.{TokenKind}
use Rattle.slang_lexer.specs.declared.token.TokenKind.TheVariants as kind
use Rattle.slang_lexer.specs.Spelling.{signs, words, kind_of, is_name, is_number}
use Rattle.std.specs.Char.{encode_utf8}
use Rattle.std.specs.Str.{is_utf8, chars}
use Rattle.slang_values.specs.declared.operators.Quantifier.{Quantifier}
use Rattle.slang_values.specs.declared.operators.Quantifier.TheVariants as quantifier
use Rattle.slang_tree.specs.declared.expression.Name.{Name}
use Rattle.slang_tree.specs.declared.expression.Operator.{Operator}
use Rattle.slang_tree.specs.declared.expression.Operator.TheVariants as o
use Rattle.slang_tree.specs.TypeTree.{TypeTree, z_name, b_name, unit_name, sequence_name, record_name}
use Rattle.slang_tree.specs.ExprTree.{ExprTree, ExprTrees, no_exprs, expr_then}
use Rattle.slang_tree.specs.ExprTree as e
use Rattle.slang_tokens.specs.Tok.{same_kind}
use Rattle.slang_grammar.specs.declared.operator.Side.TheVariants.{Left, Right}
use Rattle.slang_grammar.specs.Operators.{operators, prefix_level, whole_level}
use Rattle.slang_grammar.specs.Expressions.{quantifier_kind, ExprText, level}
use Rattle.print_expressions.specs.Bare.{nowhere, bare_name}
use Rattle.print_expressions.specs.Operators.{row_of}
use Rattle.print_expressions.specs.Hefts.{one, around as around_heft, followed, heft, peak_of}
use Rattle.print_expressions.specs.Accounts.{type_account, element_account, word_of, in_brackets_unless, left_stays, right_stays, head_stays, first_stays, first_before, expr_account, exprs_account}
use Rattle.print_expressions.proofs.Numerals.{numerals_read_back}
use Rattle.print_layout.specs.Pieces.{Gap, none, blank, Piece}
use Rattle.print_layout.specs.Expressions.{type_pieces, optional_element, bound_pieces, expr_pieces, exprs_pieces}
use Rattle.sound_trees.specs.Sound.{IsNamed, SoundType, IfSound, SoundExpr, SoundExprs}
use Rattle.laid_tokens.specs.Kinds.{has, starter_kinds, is_sign, is_word, fits, is_plain}
use Rattle.laid_tokens.specs.Laid.{inside, Laid, done, plain, opening, closing}
use Rattle.laid_tokens.specs.Laid as laid
use Rattle.printed_pieces.proofs.Ends.{laid_append, end_kinds, Ended, fits_paren, fits_comma, fits_dot, fits_open, fits_bracket, fits_blank, Enters, enters_paren, enters_blank, enters_bang, enters_minus, close_paren}

-- ---- types

-- what a type may begin with fits there
pub record Types (group : Bool) (last : TokenKind) (gap : Gap) : Type 0 where
  pub starts : (k : TokenKind) → has (kind.Name ∷ kind.TypeZ ∷ kind.TypeB ∷ kind.TypeUnit ∷ kind.TypeIsz ∷ []) k ≡ true → fits group last gap k ≡ true

pub types_blank : (group : Bool) → Types group kind.Colon blank
types_blank group = record { starts = λ k h. refl }

types_bracket : Types true kind.LeftBracket none
types_bracket = record { starts = λ k h. refl }

pub type_laid : (ty : TypeTree) → SoundType ty → (around : List Bool) (last : TokenKind) (gap : Gap) → Types (inside around) last gap
    → Ended around last (type_pieces gap (type_account ty))
unfolding words
type_laid (z_name place) h around last gap at = record {
  end = kind.TypeZ;
  ends = refl;
  laid = plain refl (laid.word refl refl)
      (at.starts kind.TypeZ refl) done;
}
type_laid (b_name place) h around last gap at = record {
  end = kind.TypeB;
  ends = refl;
  laid = plain refl (laid.word refl refl)
      (at.starts kind.TypeB refl) done;
}
type_laid (unit_name place) h around last gap at =
    record { end = kind.TypeUnit; ends = refl; laid = plain refl (laid.word refl refl) (at.starts kind.TypeUnit refl) done }
type_laid (sequence_name place element) h around last gap at =
    let t = type_laid element h (true ∷ around) kind.LeftBracket none types_bracket in
    record {
      end = kind.RightBracket;
      ends = refl;
      laid = plain refl (laid.word refl refl) (at.starts kind.TypeIsz refl)
          (opening refl (laid.sign refl refl) refl (laid_append t.laid (closing refl (laid.sign refl refl) (fits_bracket true t.end t.ends) done)));
    }
type_laid (record_name written) h around last gap at = record {
  end = kind.Name;
  ends = refl;
  laid = plain refl (laid.name refl h)
      (at.starts kind.Name refl) done;
}

-- `[type]`, or nothing, behind a word
pub record WithElement (around : List Bool) (last : TokenKind) (pieces : List Piece) : Type 0 where
  pub end : TokenKind
  pub ends : has end_kinds last ≡ true → has end_kinds end ≡ true
  pub laid : Laid around last pieces around end

pub element_laid : (ty : Option TypeTree) → IfSound ty → (around : List Bool) (last : TokenKind) → fits (inside around) last none kind.LeftBracket ≡ true
    → WithElement around last (optional_element (option_map element_account ty))
element_laid None h around last f = record { end = last; ends = λ e. e; laid = done }
element_laid (Some ty) h around last f =
    let t = type_laid ty h (true ∷ around) kind.LeftBracket none types_bracket in
    record {
      end = kind.RightBracket;
      ends = λ e. refl;
      laid = opening refl (laid.sign refl refl) f (laid_append t.laid (closing refl (laid.sign refl refl) (fits_bracket true t.end t.ends) done));
    }

indices_named : kind_of (codes "indices") ≡ Some kind.Name
unfolding kind_of signs words is_name is_number is_utf8 chars encode_utf8
indices_named = refl

-- ---- operators and quantifiers

row_is : (operator : Operator) → (is_plain (row_of operator).sign && (is_sign (row_of operator).sign && not
    (same_kind (row_of operator).sign kind.Newline))) ≡ true
unfolding row_of operators
row_is o.LooseImply = refl
row_is o.LooseCondImply = refl
row_is o.Or = refl
row_is o.CondOr = refl
row_is o.And = refl
row_is o.CondAnd = refl
row_is o.Eq = refl
row_is o.Ne = refl
row_is o.Lt = refl
row_is o.Le = refl
row_is o.Gt = refl
row_is o.Ge = refl
row_is o.Append = refl
row_is o.Imply = refl
row_is o.CondImply = refl
row_is o.Add = refl
row_is o.Sub = refl
row_is o.Mul = refl
row_is o.Div = refl
row_is o.Rem = refl

record Row (operator : Operator) : Type 0 where
  plain : is_plain (row_of operator).sign ≡ true
  sign : is_sign (row_of operator).sign ≡ true
  spaced : not (same_kind (row_of operator).sign kind.Newline) ≡ true

row_facts : (operator : Operator) → Row operator
row_facts operator =
    let k = (row_of operator).sign in
    let a = and_parts (is_plain (row_of operator).sign) (is_sign (row_of operator).sign && not (same_kind (row_of operator).sign kind.Newline))
    (row_is operator) in
    let b = and_parts (is_sign (row_of operator).sign) (not (same_kind (row_of operator).sign kind.Newline)) a.1 in
    record { plain = a.0; sign = b.0; spaced = b.1 }

record Word (k : TokenKind) : Type 0 where
  plain : is_plain k ≡ true
  word : is_word k ≡ true
  starts : has starter_kinds k ≡ true
  opens : (group : Bool) → fits group k none kind.LeftParen ≡ true

quantifier_word : (by : Quantifier) → Word (quantifier_kind (word_of by))
unfolding words
quantifier_word quantifier.All = record { plain = refl; word = refl; starts = refl; opens = λ group. refl }
quantifier_word quantifier.Exists = record { plain = refl; word = refl; starts = refl; opens = λ group. refl }

-- ---- expressions

-- the text is laid out well wherever an expression may begin
abbrev pub Stands : ExprText → Type 0
Stands text = (around : List Bool) (last : TokenKind) (gap : Gap) → Enters (inside around) last gap → Ended around last (expr_pieces gap text)

bracketed_stands : (bare : Bool) (text : ExprText) → Stands text → Stands (in_brackets_unless bare text)
bracketed_stands true text s = s
bracketed_stands false text s = λ around last gap at.
    let m = s (true ∷ around) kind.LeftParen none (enters_paren true) in
    record {
      end = kind.RightParen;
      ends = refl;
      laid = opening refl (laid.sign refl refl) (at.starts kind.LeftParen refl) (close_paren nowhere m);
    }

-- behind a `(`, arguments or nothing
pub record Arguments (around : List Bool) (pieces : List Piece) : Type 0 where
  pub end : TokenKind
  pub closes : fits true end none kind.RightParen ≡ true
  pub laid : Laid (true ∷ around) kind.LeftParen pieces (true ∷ around) end

abbrev pub HasTree : ExprTrees → Type 0
HasTree no_exprs = ⊥
HasTree (expr_then tree trees) = Unit {0}

-- `(variable => body)`
bound_laid : (n : Name) (body : ExprText) → IsNamed n → Stands body → (around : List Bool)
    → Laid around kind.RightParen (bound_pieces (record { left = nowhere; variable = bare_name n; arrow = nowhere; right = nowhere })
    (expr_pieces blank body)) around kind.RightParen
bound_laid n body h s around =
    let m = s (true ∷ around) kind.FatArrow blank (enters_blank true kind.FatArrow refl) in
    opening refl (laid.sign refl refl) refl (plain refl (laid.name refl h) refl (plain refl (laid.sign refl refl) refl (close_paren nowhere m)))

module _ (light : Bool) where
  pub arguments : (trees : ExprTrees) (around : List Bool) → (HasTree trees → Ended (true ∷ around) kind.LeftParen
      (exprs_pieces none blank (exprs_account light trees)))
      → Arguments around (exprs_pieces none blank (exprs_account light trees))
  arguments no_exprs around s = record { end = kind.LeftParen; closes = refl; laid = done }
  arguments (expr_then tree trees) around s = let m = s tt in record { end = m.end; closes = fits_paren true m.end m.ends; laid = m.laid }

  mutual
    unfolding words

    pub expr_laid : (tree : ExprTree) → SoundExpr tree → Stands (expr_account light tree)
    expr_laid (e.number place z) h around last gap at =
        record { end = kind.Number; ends = refl; laid = plain refl (laid.number refl (numerals_read_back (nat_abs z) h).0) (at.starts kind.Number refl) done }
    expr_laid (e.truth place) h around last gap at =
        record { end = kind.True; ends = refl; laid = plain refl (laid.word refl refl) (at.starts kind.True refl) done }
    expr_laid (e.falsity place) h around last gap at =
        record { end = kind.False; ends = refl; laid = plain refl (laid.word refl refl) (at.starts kind.False refl) done }
    expr_laid (e.name text place) h around last gap at =
        record { end = kind.Name; ends = refl; laid = plain refl (laid.name refl h) (at.starts kind.Name refl) done }
    expr_laid (e.result place ty) h around last gap at =
        let t = element_laid ty h around kind.Res refl in
        record { end = t.end; ends = t.ends refl; laid = plain refl (laid.word refl refl) (at.starts kind.Res refl) t.laid }
    expr_laid (e.entry_value place written) h around last gap at = record {
      end = kind.RightParen;
      ends = refl;
      laid = plain refl (laid.word refl refl) (at.starts kind.In refl)
          (opening refl (laid.sign refl refl) refl (plain refl (laid.name refl h) refl (closing refl (laid.sign refl refl) refl done)));
    }
    expr_laid (e.old_value place written) h around last gap at = record {
      end = kind.RightParen;
      ends = refl;
      laid = plain refl (laid.word refl refl) (at.starts kind.Old refl)
          (opening refl (laid.sign refl refl) refl (plain refl (laid.name refl h) refl (closing refl (laid.sign refl refl) refl done)));
    }
    expr_laid (e.minus place operand) h around last gap at =
        let inner = bracketed_stands (nat_le prefix_level (level (expr_account light operand))) (expr_account light operand) (expr_laid operand h) in
        let m = inner around kind.Minus none (enters_minus (inside around)) in
        record { end = m.end; ends = m.ends; laid = plain refl (laid.sign refl refl) (at.starts kind.Minus refl) m.laid }
    expr_laid (e.negation place operand) h around last gap at =
        let inner = bracketed_stands (nat_le prefix_level (level (expr_account light operand))) (expr_account light operand) (expr_laid operand h) in
        let m = inner around kind.Bang none (enters_bang (inside around)) in
        record { end = m.end; ends = m.ends; laid = plain refl (laid.sign refl refl) (at.starts kind.Bang refl) m.laid }
    expr_laid (e.binary place operator left right) h around last gap at =
        let row = row_of operator in
        let facts = row_facts operator in
        let l = bracketed_stands (left_stays light (row_of operator) (expr_account light left) (expr_account light right)) (expr_account light left) (expr_laid left h.0) around last gap at in
        let r = bracketed_stands (right_stays light (row_of operator) (expr_account light left) (expr_account light right)) (expr_account light right) (expr_laid right h.1) around
        (row_of operator).sign blank
        (enters_blank (inside around) (row_of operator).sign facts.spaced) in
        record {
          end = r.end;
          ends = r.ends;
          laid = laid_append l.laid (plain facts.plain (laid.sign facts.sign refl) (fits_blank (inside around) l.end (row_of operator).sign l.ends) r.laid);
        }
    expr_laid (e.application place head args) h around last gap at =
        let l = bracketed_stands (head_stays light (expr_account light head) (around_heft (peak_of (exprs_account light args)))) (expr_account light head) (expr_laid head h.0) around last gap at in
        let a = arguments args around (λ some. exprs_laid args h.1 some around kind.LeftParen none blank (enters_paren true)
        (enters_blank true kind.Comma refl)) in
        record {
          end = kind.RightParen;
          ends = refl;
          laid = laid_append (laid_append l.laid (opening refl (laid.sign refl refl) (fits_open (inside around) l.end l.ends) a.laid))
              (closing refl (laid.sign refl refl) a.closes done);
        }
    expr_laid (e.update place head index element) h around last gap at =
        let l = bracketed_stands (head_stays light (expr_account light head)
        (around_heft (followed (heft (first_before light (expr_account light index) (expr_account light element))) (heft (expr_account light element))).peak)) (expr_account light head) (expr_laid head h.0) around last gap at in
        let i = bracketed_stands (first_stays light (expr_account light index) (expr_account light element)) (expr_account light index) (expr_laid index h.1) (true ∷ around) kind.LeftParen none (enters_paren true) in
        let m = expr_laid element h.2 (true ∷ around) kind.TildeArrow blank (enters_blank true kind.TildeArrow refl) in
        record {
          end = kind.RightParen;
          ends = refl;
          laid = laid_append (laid_append (laid_append l.laid (opening refl (laid.sign refl refl) (fits_open (inside around) l.end l.ends) i.laid))
              (plain refl (laid.sign refl refl) (fits_blank true i.end kind.TildeArrow i.ends) m.laid))
              (closing refl (laid.sign refl refl) (fits_paren true m.end m.ends) done);
        }
    expr_laid (e.field place head written) h around last gap at =
        let l = bracketed_stands (head_stays light (expr_account light head) one) (expr_account light head) (expr_laid head h.0) around last gap at in
        record {
          end = kind.Name;
          ends = refl;
          laid = laid_append l.laid (plain refl (laid.sign refl refl) (fits_dot (inside around) l.end l.ends) (plain refl (laid.name refl h.1) refl done));
        }
    expr_laid (e.sequence place ty elements) h around last gap at =
        let t = element_laid ty h.0 around kind.TypeIsz refl in
        let a = arguments elements around (λ some. exprs_laid elements h.1 some around kind.LeftParen none blank (enters_paren true)
        (enters_blank true kind.Comma refl)) in
        record {
          end = kind.RightParen;
          ends = refl;
          laid = plain refl (laid.word refl refl) (at.starts kind.TypeIsz refl)
              (laid_append (laid_append t.laid (opening refl (laid.sign refl refl) (fits_open (inside around) t.end (t.ends refl)) a.laid))
              (closing refl (laid.sign refl refl) a.closes done));
        }
    expr_laid (e.quantified place by low high named body) h around last gap at =
        let w = quantifier_word by in
        let l = bracketed_stands (first_stays light (expr_account light low) (expr_account light high)) (expr_account light low) (expr_laid low h.0) (true ∷ around) kind.LeftParen none (enters_paren true) in
        let u = expr_laid high h.1 (true ∷ around) kind.Until blank (enters_blank true kind.Until refl) in
        record {
          end = kind.RightParen;
          ends = refl;
          laid = plain w.plain (laid.word w.word refl) (at.starts (quantifier_kind (word_of by)) w.starts)
              (opening refl (laid.sign refl refl) (w.opens (inside around))
              (laid_append (laid_append l.laid (plain refl (laid.word refl refl) (fits_blank true l.end kind.Until l.ends) u.laid))
              (closing refl (laid.sign refl refl) (fits_paren true u.end u.ends) (bound_laid named (expr_account light body) h.2 (expr_laid body h.3) around))));
        }
    expr_laid (e.quantified_indices place by head named body) h around last gap at =
        let w = quantifier_word by in
        let l = bracketed_stands (nat_eq (level (expr_account light head)) whole_level) (expr_account light head) (expr_laid head h.0) (true ∷ around) kind.LeftParen none
        (enters_paren true) in
        record {
          end = kind.RightParen;
          ends = refl;
          laid = plain w.plain (laid.word w.word refl) (at.starts (quantifier_kind (word_of by)) w.starts)
              (opening refl (laid.sign refl refl) (w.opens (inside around))
              (laid_append l.laid (plain refl (laid.sign refl refl) (fits_dot true l.end l.ends) (plain refl (laid.name refl indices_named) refl
              (closing refl (laid.sign refl refl) refl (bound_laid named (expr_account light body) h.1 (expr_laid body h.2) around))))));
        }

    -- behind a `(`, expressions parted by commas
    pub exprs_laid : (trees : ExprTrees) → SoundExprs trees → HasTree trees → (around : List Bool) (last : TokenKind) (first next : Gap) → Enters true last first
        → Enters true kind.Comma next → Ended (true ∷ around) last (exprs_pieces first next (exprs_account light trees))
    exprs_laid no_exprs h some around last first next at then = absurd some
    exprs_laid (expr_then tree no_exprs) h some around last first next at then = expr_laid tree h.0 (true ∷ around) last first at
    exprs_laid (expr_then tree (expr_then more trees)) h some around last first next at then =
        let m = expr_laid tree h.0 (true ∷ around) last first at in
        let r = exprs_laid (expr_then more trees) h.1 tt around kind.Comma next next then then in
        record {
          end = r.end;
          ends = r.ends;
          laid = laid_append m.laid (plain refl (laid.sign refl refl) (fits_comma true m.end m.ends) r.laid);
        }
