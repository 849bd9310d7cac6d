-- What a token begins, and where the machine goes with it.
use Rattle.std.proofs.Common.{◌≡◌, Bool, true, false, cond, Option, Some, None, pos, refl, sym, ap, ◌∙◌}
use Rattle.std.specs.Option.{option_map}
use Rattle.slang_lexer.specs.declared.token.TokenKind.TheVariants as kind
use Rattle.slang_lexer.specs.Next.{value_of as number_value}
use Rattle.slang_values.specs.declared.operators.Quantifier.{Quantifier}
use Rattle.slang_values.specs.declared.operators.Quantifier.TheVariants as quantifier
use Rattle.slang_tree.specs.ExprTree as e
use Rattle.slang_tree.specs.ExprTree.{ExprTree}
use Rattle.slang_tokens.specs.Tok.{Tok}
use Rattle.slang_grammar.specs.declared.operator.Prefix.{Prefix}
use Rattle.slang_grammar.specs.declared.operator.Prefix.TheVariants as prefix
use Rattle.slang_machine.specs.Open.{Around, inside, under}
use Rattle.slang_machine.specs.States.{State, ValueWord, whole, entry_word, old_word, want, have, result_or_type, value_left, sequence_or_type, range_left}
use Rattle.slang_machine.specs.Expressions.{is, is_name, is_number_token, on, next_want, next_begin, next_word, leaf_of, prefix_of, quantifier_of, value_word_of}
use Rattle.expression_parser.specs.declared.begin.Beginning.{Beginning}
use Rattle.expression_parser.specs.declared.begin.Beginning.TheVariants as begin
use Rattle.expression_parser.specs.declared.begin.Head.{Head}
use Rattle.expression_parser.specs.declared.begin.Head.TheVariants as head
use Rattle.expression_parser.specs.Begins.{word_of, begin_of, behind_head, behind_begin}

-- both sides go by one test
pub split : {A B C : Type 0} (test : Bool) (f : A → C) (g : B → C) (x y : A) (x' y' : B) → f x ≡ g x' → f y ≡ g y' → f (cond test x y) ≡ g (cond test x' y')
split true f g x y x' y' h k = h
split false f g x y x' y' h k = k

pub want_word : (around : Around) (token : Tok) → next_word around token (quantifier_of token) (value_word_of token) ≡ option_map (behind_head around token) (word_of token)
want_word around token =
    let value = value_word_of token in
    let by : Option Quantifier → Option State = λ q. next_word around token q value in
    let of : Option ValueWord → Option State = λ v. next_word around token None v in
    let own : Option State → Option State = λ s. s in
    let to : Option Head → Option State = λ h. option_map (behind_head around token) h in
    split (is kind.All token) by to _ _ _ _ refl
    (split (is kind.ForAllSign token) by to _ _ _ _ refl
    (split (is kind.Exists token) by to _ _ _ _ refl
    (split (is kind.ExistsSign token) by to _ _ _ _ refl
    (split (is kind.In token) of to _ _ _ _ refl
    (split (is kind.Old token) of to _ _ _ _ refl
    (split (is kind.Res token) own to _ _ _ _ refl
    (split (is kind.TypeIsz token) own to _ _ _ _ refl
    (split (is kind.LeftParen token) own to _ _ _ _ refl refl))))))))

-- a word or a bracket begins no prefix
heads : (around : Around) (token : Tok) (h : Option Head) → option_map (behind_head around token) h ≡ option_map (behind_begin around token) (option_map (λ x. begin.Head x) h)
heads around token (Some h) = refl
heads around token None = refl

pub want_begin : (around : Around) (token : Tok) → next_want around token ≡ option_map (behind_begin around token) (begin_of token)
want_begin around token =
    let by : Option ExprTree → Option State = λ l. next_begin around token l (prefix_of token) in
    let under_it : Option Prefix → Option State = λ p. next_begin around token None p in
    let to : Option Beginning → Option State = λ b. option_map (behind_begin around token) b in
    split (is kind.True token) by to _ _ _ _ refl
    (split (is kind.False token) by to _ _ _ _ refl
    (split (is_name token) by to _ _ _ _ refl
    (split (is_number_token token) by to _ _ _ _ refl
    (split (is kind.Bang token) under_it to _ _ _ _ refl
    (split (is kind.Minus token) under_it to _ _ _ _ refl
    (want_word around token ∙ heads around token (word_of token)))))))

skip : {A : Type 0} (b : Bool) (x y : A) → b ≡ false → cond b x y ≡ y
skip b x y h = ap (λ c. cond c x y) h

pub not_on : {A : Type 0} (b : Bool) (x : A) (o : Option A) → o ≡ on b x → o ≡ None → b ≡ false
not_on true x o e h = absurd (cc)
not_on false x o e h = refl

-- what is neither a leaf nor a prefix begins with a word or a bracket
pub last_begin : (token : Tok) (h : Head) → is kind.True token ≡ false → is kind.False token ≡ false → is_name token ≡ false → is_number_token token ≡ false
    → is kind.Bang token ≡ false → is kind.Minus token ≡ false → Some h ≡ word_of token → Some (begin.Head h) ≡ begin_of token
last_begin token h a b c d e f w = sym
    (skip (is kind.True token) _ _ a ∙ skip (is kind.False token) _ _ b ∙ skip (is_name token) _ _ c ∙ skip (is_number_token token) _ _ d
    ∙ skip (is kind.Bang token) _ _ e ∙ skip (is kind.Minus token) _ _ f ∙ ap (option_map (λ x. begin.Head x)) (sym w))
