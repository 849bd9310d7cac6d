-- Steps of proofs are laid out so that their tokens may stand beside each other. They stand inside round brackets.
use Rattle.std.proofs.Common.{◌≡◌, ℕ, suc, Bool, true, false, List, [], ◌∷◌, ◌++◌, inl, inr, refl, sym, ◌∙◌, true≢false}
use Rattle.std.specs.List.{AllByRecursion}
use Rattle.std.specs.Prelude.{codes, if◌then◌else◌}
use Rattle.std.specs.Str.{bytes_eq}
use Rattle.std.proofs.lemmas.Slice.Eq.{bytes_eq-Decides}
use Rattle.slang_lexer.specs.declared.token.TokenKind.{TokenKind}
use Rattle.slang_lexer.specs.declared.token.TokenKind.TheVariants as kind
use Rattle.slang_lexer.specs.Spelling.{words}
use Rattle.slang_tree.specs.declared.expression.Name.{Name}
use Rattle.slang_tree.specs.declared.statement.Label.{Label}
use Rattle.slang_tree.specs.ExprTree.{ExprTree}
use Rattle.slang_tree.specs.StmtTree.{StepTree, StepTrees, no_steps, step_then}
use Rattle.slang_tree.specs.StmtTree as t
use Rattle.slang_tokens.specs.Tok.{Tok}
use Rattle.slang_grammar.specs.Proofs.{rule_token, rule_name, subst_less, subst_greater}
use Rattle.print_expressions.specs.Bare.{nowhere, bare_name}
use Rattle.print_statements.specs.Accounts.{rule_account, cites_account, assume_account, let_account, as_behind, step_account, steps_account}
use Rattle.print_layout.specs.Pieces.{none, blank, Piece}
use Rattle.print_layout.specs.Pieces as pieces
use Rattle.print_layout.specs.Statements.{cites_pieces, assume_pieces, let_pieces, step_pieces, behind_pieces, steps_pieces}
use Rattle.sound_trees.specs.Sound.{IsNamed, SoundExpr, SoundLabel, SoundRule, SoundStep, SoundSteps}
use Rattle.laid_tokens.specs.Kinds.{has, fits, is_plain}
use Rattle.laid_tokens.specs.Laid.{IsSpelled, inside, Laid, done, plain, opening, closing}
use Rattle.laid_tokens.specs.Laid as laid
use Rattle.printed_pieces.proofs.Ends.{laid_append, step_ends, fits_paren, step_comma, step_paren, enters_paren}
use Rattle.printed_pieces.proofs.Expressions.{expr_laid}
use Rattle.printed_pieces.proofs.Lists.{label_spelled, labels_laid}

-- pieces that end as a step does
record StepEnd (around : List Bool) (last : TokenKind) (ps : List Piece) : Type 0 where
  end : TokenKind
  ends : has step_ends end ≡ true
  laid : Laid (true ∷ around) last ps (true ∷ around) end

-- ---- rules

record RuleIs (token : Tok) : Type 0 where
  plain : is_plain token.kind ≡ true
  spelled : IsSpelled token
  ends : has step_ends token.kind ≡ true
  opens : fits true token.kind none kind.LeftParen ≡ true

rule_is : (rule : Name) → SoundRule rule → RuleIs (rule_token (rule_account rule))
rule_is rule h = by (bytes_eq rule.text (codes "Subst_<")) (bytes_eq rule.text (codes "Subst_>")) refl refl
  where
    named : bytes_eq rule.text (codes "Subst_<") ≡ false → bytes_eq rule.text (codes "Subst_>") ≡ false → SoundRule rule → IsNamed rule
    named e f (inl n) = n
    named e f (inr (inl is)) = absurd (true≢false (sym ((bytes_eq-Decides rule.text (codes "Subst_<")).1 is) ∙ e))
    named e f (inr (inr is)) = absurd (true≢false (sym ((bytes_eq-Decides rule.text (codes "Subst_>")).1 is) ∙ f))

    by : (a b : Bool) → bytes_eq rule.text (codes "Subst_<") ≡ a → bytes_eq rule.text (codes "Subst_>") ≡ b
        → RuleIs (rule_token (if a then subst_less nowhere else (if b then subst_greater nowhere else rule_name (bare_name rule))))
    by true b e f = record { plain = refl; spelled = laid.sign refl refl; ends = refl; opens = refl }
    by false true e f = record { plain = refl; spelled = laid.sign refl refl; ends = refl; opens = refl }
    by false false e f = record { plain = refl; spelled = laid.name refl (named e f h); ends = refl; opens = refl }

cites_laid : (cites : List Label) → AllByRecursion SoundLabel cites → (around : List Bool) (last : TokenKind) → has step_ends last ≡ true
    → fits true last none kind.LeftParen ≡ true → StepEnd around last (cites_pieces (cites_account cites))
cites_laid [] h around last e f = record { end = last; ends = e; laid = done }
cites_laid (l ∷ labels) h around last e f =
    let a = labels_laid (l ∷ labels) h (true ∷ around) in
    record {
      end = kind.RightParen;
      ends = refl;
      laid = opening refl (laid.sign refl refl) f (laid_append a.laid (closing refl (laid.sign refl refl) a.closes done));
    }

let_laid : (variable : Name) → IsNamed variable → (around : List Bool) → Laid (true ∷ around) kind.Number (let_pieces (let_account variable))
    (true ∷ true ∷ around) kind.FatArrow
unfolding words
let_laid variable h around =
    plain refl (laid.word refl refl) refl
    (opening refl (laid.sign refl refl) refl
    (opening refl (laid.sign refl refl) refl
    (plain refl (laid.name refl h) refl
    (plain refl (laid.sign refl refl) refl
    (plain refl (laid.word refl refl) refl (closing refl (laid.sign refl refl) refl (plain refl (laid.sign refl refl) refl done)))))))

abbrev pub HasStep : StepTrees → Type 0
HasStep no_steps = ⊥
HasStep (step_then step steps) = Unit {0}

module _ (light : Bool) where
  -- ---- assumptions

  assume_laid : (depth : ℕ) (assumed : Label) (given : ExprTree) → SoundLabel assumed → SoundExpr given → (around : List Bool) (last : TokenKind)
      → fits (inside around) last blank kind.SubProof ≡ true → Laid around last (assume_pieces depth blank (assume_account light assumed given))
      (true ∷ around) kind.RightParen
  unfolding words
  assume_laid depth assumed given h k around last f =
      let m = expr_laid light given k (true ∷ true ∷ around) kind.LeftParen none (enters_paren true) in
      plain refl (laid.word refl refl) f
      (opening refl (laid.sign refl refl) refl
      (plain refl (label_spelled assumed h) refl
      (plain refl (laid.word refl refl) refl
      (opening refl (laid.sign refl refl) refl (laid_append m.laid (closing refl (laid.sign refl refl) (fits_paren true m.end m.ends) done))))))

  -- ---- steps

  -- behind an assumption
  behind_laid : (depth : ℕ) (steps : StepTrees) (around : List Bool) → (HasStep steps → StepEnd around kind.Comma (steps_pieces depth (steps_account light steps)))
      → StepEnd around kind.RightParen (behind_pieces depth (as_behind (steps_account light steps)))
  behind_laid depth no_steps around s = record { end = kind.RightParen; ends = refl; laid = done }
  behind_laid depth (step_then step no_steps) around s =
      let m = s tt in record { end = m.end; ends = m.ends; laid = plain refl (laid.sign refl refl) refl m.laid }
  behind_laid depth (step_then step (step_then more steps)) around s =
      let m = s tt in record { end = m.end; ends = m.ends; laid = plain refl (laid.sign refl refl) refl m.laid }

  mutual
    unfolding words

    step_laid : (step : StepTree) → SoundStep step → (depth : ℕ) (around : List Bool) (last : TokenKind) → fits true last (pieces.line depth) kind.Number ≡ true
        → StepEnd around last (step_pieces depth (step_account light step))
    step_laid (t.line label claim rule cites) h depth around last f =
        let m = expr_laid light claim h.1 (true ∷ true ∷ around) kind.LeftParen none (enters_paren true) in
        let r = rule_is rule h.2 in
        let c = cites_laid cites h.3 around (rule_token (rule_account rule)).kind r.ends r.opens in
        record {
          end = c.end;
          ends = c.ends;
          laid = plain refl (label_spelled label h.0) f
              (opening refl (laid.sign refl refl) refl
              (laid_append m.laid (closing refl (laid.sign refl refl) (fits_paren true m.end m.ends)
              (plain refl (laid.word refl refl) refl (plain r.plain r.spelled refl c.laid)))));
        }
    step_laid (t.block label assumed given steps) h depth around last f =
        let a = assume_laid depth assumed given h.1 h.2 (true ∷ around) kind.Number refl in
        let b = behind_laid (suc depth) steps (true ∷ around) (λ some. steps_laid steps h.3 some (suc depth) (true ∷ around) kind.Comma refl) in
        record {
          end = kind.RightParen;
          ends = refl;
          laid = plain refl (label_spelled label h.0) f
              (laid_append (laid_append a b.laid) (closing refl (laid.sign refl refl) (step_paren b.end depth b.ends) done));
        }
    step_laid (t.let_block label variable assumed given steps) h depth around last f =
        let l = let_laid variable h.1 around in
        let a = assume_laid depth assumed given h.2 h.3 (true ∷ true ∷ around) kind.FatArrow refl in
        let b = behind_laid (suc depth) steps (true ∷ true ∷ around) (λ some. steps_laid steps h.4 some (suc depth) (true ∷ true ∷ around) kind.Comma refl) in
        record {
          end = kind.RightParen;
          ends = refl;
          laid = plain refl (label_spelled label h.0) f
              (laid_append (laid_append (laid_append l a) b.laid)
              (closing refl (laid.sign refl refl) (step_paren b.end depth b.ends) (closing refl (laid.sign refl refl) refl done)));
        }

    steps_laid : (steps : StepTrees) → SoundSteps steps → HasStep steps → (depth : ℕ) (around : List Bool) (last : TokenKind)
        → fits true last (pieces.line depth) kind.Number ≡ true → StepEnd around last (steps_pieces depth (steps_account light steps))
    steps_laid no_steps h some depth around last f = absurd some
    steps_laid (step_then step no_steps) h some depth around last f = step_laid step h.0 depth around last f
    steps_laid (step_then step (step_then more steps)) h some depth around last f =
        let m = step_laid step h.0 depth around last f in
        let r = steps_laid (step_then more steps) h.1 tt depth around kind.Comma refl in
        record { end = r.end; ends = r.ends; laid = laid_append m.laid (plain refl (laid.sign refl refl) (step_comma m.end m.ends) r.laid) }

  -- all steps of a `Deduce`, up to its last bracket
  pub proof_laid : (steps : StepTrees) → SoundSteps steps → (depth : ℕ) (around : List Bool)
      → Laid (true ∷ around) kind.LeftParen (steps_pieces (suc depth) (steps_account light steps) ++ pieces.mark
      (pieces.line depth) kind.RightParen nowhere ∷ []) around kind.RightParen
  proof_laid no_steps h depth around = closing refl (laid.sign refl refl) refl done
  proof_laid (step_then step steps) h depth around =
      let m = steps_laid (step_then step steps) h tt (suc depth) around kind.LeftParen refl in
      laid_append m.laid (closing refl (laid.sign refl refl) (step_paren m.end depth m.ends) done)
