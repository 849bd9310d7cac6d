-- Words that are arguments, by their tokens and one by one.
use Rattle.std.proofs.Common.{◌≡◌, ℕ, List, [], IsTrue, Bool, false, refl, subst, ◌∙◌}
use Rattle.std.proofs.lemmas.Bool.{false≢true}
use Rattle.std.specs.Prelude.{Result, Ok, Err, IfOk}
use Rattle.std.specs.List.{AllByRecursion}
use Rattle.slang_tokens.specs.Tok.{Tok}
use Rattle.slang_tokens.specs.Tokens.{weight_limit}
use Rattle.slang_tokens.specs.Weights.{AreLight}
use Rattle.argument_rules.specs.Words.{word_tokens}
use Rattle.argument_words.specs.Words.{AreTokensOf}
use Rattle.value_reading.proofs.Slashes.{no_slash_in}
use Rattle.run_words.specs.Arguments.{IsArgumentWord, AreArgumentTokens}

pub if_ok_map : {X E : Type 0} (r : Result X E) (P Q : X → Type 0) → ((x : X) → P x → Q x) → IfOk r P → IfOk r Q
if_ok_map (Ok x) P Q f h = f x h
if_ok_map (Err e) P Q f h = tt

pub argument_split : (bytes : List ℕ) → IsArgumentWord bytes → (tokens : List Tok) × AreTokensOf bytes tokens × AreArgumentTokens tokens
argument_split bytes h =
    let a = h.is_argument in (
      word_tokens a.words,
      record { words = a.words; are_words = a.are_words; no_slash = no_slash_in h.const a.words a.spelled; are = refl },
      record { constant = record { const = h.const; well_formed = a.well_formed; spelled = a.spelled }; light = a.light },
    )

pub argument_join : (bytes : List ℕ) (tokens : List Tok) → AreTokensOf bytes tokens → AreArgumentTokens tokens → IsArgumentWord bytes
argument_join bytes tokens h k = record {
  const = k.constant.const;
  is_argument = record {
    words = h.words;
    are_words = h.are_words;
    well_formed = k.constant.well_formed;
    spelled = k.constant.spelled ∙ h.are;
    light = subst (AreLight weight_limit []) h.are k.light;
  };
}

-- no tokens of the word are there, so it is no argument
pub no_argument : (bytes : List ℕ) → ((all : List Tok) → AreTokensOf bytes all → ⊥) → (IsTrue false → IsArgumentWord bytes) × (IsArgumentWord bytes → IsTrue false)
no_argument bytes none = (λ no. absurd (false≢true no), λ h. let s = argument_split bytes h in absurd (none s.0 s.1))

-- the word is an argument where its tokens are one
pub by_tokens : (bytes : List ℕ) (tokens : List Tok) → AreTokensOf bytes tokens × ((all : List Tok) → AreTokensOf bytes all → all ≡ tokens)
    → {are : Bool} → (IsTrue are → AreArgumentTokens tokens) × (AreArgumentTokens tokens → IsTrue are)
    → (IsTrue are → IsArgumentWord bytes) × (IsArgumentWord bytes → IsTrue are)
by_tokens bytes tokens found told = (
  λ is. argument_join bytes tokens found.0 (told.0 is),
  λ h. let s = argument_split bytes h in told.1 (subst AreArgumentTokens (found.1 s.0 s.1) s.2),
)

abbrev pub AreArguments : List (List ℕ) → Type 0
AreArguments words = AllByRecursion IsArgumentWord words
