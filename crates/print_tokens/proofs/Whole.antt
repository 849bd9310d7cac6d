-- The bytes that are printed are read with the same tree, but for its places.
use Rattle.std.proofs.Common.{◌≡◌, ℕ, Bool, true, false, List, [], Option, Some, None, refl, sym, ◌∙◌, ap, subst}
use Rattle.std.specs.Prelude.{slice_get}
use Rattle.std.specs.List.{AllByRecursion}
use Rattle.std.specs.Str.{IsUtf8}
use Rattle.slang_tree.specs.DeclTree.{DeclTree}
use Rattle.slang_tokens.specs.declared.read.TokensEnd.{TokensEnd}
use Rattle.slang_tokens.specs.declared.read.TokensEnd.TheVariants.{End}
use Rattle.slang_tokens.specs.Tok.{Tok}
use Rattle.slang_tokens.specs.Tokens.{weight_limit, whole, heavy, AreStanding, AreThoseBefore, AreTokens}
use Rattle.slang_tokens.specs.Weights.{AreLight}
use Rattle.slang_tokens.proofs.Cut.{len_of, cut_whole, cut_heavy}
use Rattle.slang_grammar.specs.Texts.{file_tree, Reads}
use Rattle.print_declarations.specs.Bare.{bare_file}
use Rattle.print_declarations.specs.Accounts.{file_account}
use Rattle.print_layout.specs.Pieces.{tokens_of}
use Rattle.print_layout.specs.Declarations.{file_pieces, file_bytes}
use Rattle.print_layout.proofs.Declarations.{layout_has_the_tokens}
use Rattle.print_places.proofs.Declarations.{files_are_printed_without_places, printed_files_read_back}
use Rattle.light_files.proofs.Whole.{files_are_lightest}
use Rattle.sound_trees.specs.Sound.{SoundDecl}
use Rattle.sound_trees.specs.Laws.{AreRead}
use Rattle.sound_trees.proofs.Declarations.{read_trees_are_sound}
use Rattle.moved_texts.specs.Moved.{none}
use Rattle.moved_texts.proofs.Declarations.{places_may_move}
use Rattle.laid_tokens.specs.Laws.{HaveTheirTokens}
use Rattle.laid_tokens.proofs.Whole.{laid_pieces_have_their_tokens}
use Rattle.printed_pieces.proofs.Declarations.{printed_files_are_laid_out}
use Rattle.print_tokens.specs.Printed.{NestsTooDeep, IsPrinted, plainly, lightly}
use Rattle.print_tokens.specs.Laws.{ReadsBack, PrintedBytesReadBack}
use Rattle.print_tokens.proofs.Bare.{file_twice}
use Rattle.print_tokens.proofs.Names.{names_are_read}
use Rattle.print_tokens.proofs.Weight.{light_alike}

-- tokens that do not nest too deep are those of the text
whole_unless_deep : (bytes : List ℕ) (all : List Tok) (end : TokensEnd) → IsUtf8 bytes → AreStanding bytes all end → (NestsTooDeep bytes → ⊥)
    → AreTokens bytes all end
whole_unless_deep bytes all end utf8 standing shallow = at (slice_get all (len_of all)) refl
  where
    at : (next : Option Tok) → slice_get all (len_of all) ≡ next → AreTokens bytes all end
    at None e = cut_whole bytes all end standing e
    at (Some token) e = absurd (shallow (record { utf8 = utf8; tokens = _; place = token.place; are_tokens = cut_heavy bytes all end token standing e }))

-- no token of a text nests too deep
light_before : (all : List Tok) (all_end : TokensEnd) (tokens : List Tok) (end : TokensEnd) → AreThoseBefore all all_end tokens end
    → AreLight weight_limit [] tokens
light_before all all_end tokens end (whole same ends light) = light
light_before all all_end tokens end (heavy token more same light weighs ends) = light

module _ (bytes : List ℕ) (read decls : List DeclTree) (reads : Reads bytes read) (same : bare_file decls ≡ bare_file read) where
  account : (light : Bool) → file_account light read ≡ file_account light decls
  account light =
      sym (files_are_printed_without_places light read) ∙ ap (file_account light) (sym same) ∙ files_are_printed_without_places light decls

  -- what is printed has its tokens
  have : (light : Bool) → HaveTheirTokens (file_pieces (file_account light decls))
  have light =
      let names = names_are_read bytes reads.tokens (End reads.end) reads.are_tokens in
      let sound_text = read_trees_are_sound reads.in_grammar.text reads.in_grammar.well_formed (subst AreRead (sym reads.in_grammar.spelled) names) in
      let sound : AllByRecursion SoundDecl read = subst (AllByRecursion SoundDecl) reads.in_grammar.shaped sound_text in
      let laid = printed_files_are_laid_out light read sound in
      subst (λ a. HaveTheirTokens (file_pieces a)) (account light) (laid_pieces_have_their_tokens (file_pieces (file_account light read)) laid.0 laid.1)

  back : (light : Bool) (own : HaveTheirTokens (file_pieces (file_account light decls))) → AreTokens (file_bytes light decls) own.tokens (End own.end)
      → ReadsBack (file_bytes light decls) decls
  back light own are =
      let bare : bare_file decls ≡ bare_file (file_tree reads.in_grammar.text) = same ∙ ap bare_file (sym reads.in_grammar.shaped) in
      let grammar = printed_files_read_back light decls reads.in_grammar.text reads.in_grammar.well_formed bare in
      let moved = places_may_move (tokens_of (file_pieces (file_account light decls))) own.tokens (bare_file decls) grammar own.same in
      record {
        tree = moved.tree;
        reads = record { utf8 = own.utf8; tokens = own.tokens; end = own.end; are_tokens = are; in_grammar = moved.in_grammar };
        same = moved.same ∙ file_twice decls;
      }

  -- what is printed lightly nests no deeper than a text may
  light_pieces : AreLight weight_limit [] (tokens_of (file_pieces (file_account true decls)))
  light_pieces =
      let text = reads.in_grammar.text in
      let own = light_before reads.are_tokens.all reads.are_tokens.all_end reads.tokens (End reads.end) reads.are_tokens.light in
      let light = files_are_lightest text reads.in_grammar.well_formed (subst (AreLight weight_limit []) (sym reads.in_grammar.spelled) own) in
      subst (λ a. AreLight weight_limit [] (tokens_of (file_pieces a))) (ap (file_account true) reads.in_grammar.shaped ∙ account true)
      (subst (AreLight weight_limit []) (sym (layout_has_the_tokens (file_account true (file_tree text)))) light)

  back_as : (printed : List ℕ) → IsPrinted decls printed → ReadsBack printed decls
  back_as printed (plainly shallow is) =
      let own = have false in
      subst (λ b. ReadsBack b decls) (sym is)
      (back false own (whole_unless_deep (file_bytes false decls) own.tokens (End own.end) own.utf8 own.standing shallow))
  back_as printed (lightly deep is) =
      let own = have true in
      subst (λ b. ReadsBack b decls) (sym is)
      (back true own
      (record {
        all = own.tokens;
        all_end = End own.end;
        stand = own.standing;
        light = whole refl refl (light_alike own.same weight_limit [] [] none light_pieces);
      }))

pub printed_bytes_read_back : PrintedBytesReadBack
printed_bytes_read_back bytes read decls reads same printed is = back_as bytes read decls reads same printed is
