-- The declarations of a file, one after the other.
use Rattle.std.proofs.Common.{Bool, ◌≡◌, ℕ, ◌+◌, ◌<◌, Option, Some, None, List, [], ◌∷◌, ◌++◌, map, codes, take, length, get_or}
use Rattle.std.proofs.Common.{append_assoc, append-nil, refl, sym, ap, ◌∙◌, subst}
use Rattle.std.proofs.lemmas.List.{take_more}
use Rattle.slang_lexer.specs.declared.token.TokenKind.TheVariants as kind
use Rattle.slang_lexer.specs.Spelling.{signs, words}
use Rattle.slang_tree.specs.declared.declaration.Decl.{Decl}
use Rattle.slang_tree.specs.DeclTree.{DeclTree, decl_tree}
use Rattle.slang_grammar.specs.Declarations.{DeclText, import_text, global_text, record_text, method_text}
use Rattle.print_expressions.specs.Bare.{nowhere}
use Rattle.print_declarations.specs.Accounts.{decl_account, file_account}
use Rattle.print_layout.specs.Pieces.{Gap, none, Piece, mark, listed_pieces}
use Rattle.print_layout.specs.Declarations.{decl_pieces, gap_between, file_pieces}
use Rattle.expression_printing.specs.Printed.{Adds}
use Rattle.expression_printing.proofs.Adds.{adds_none, adds_then, adds_text}
use Rattle.expression_printing.proofs.Forms.{adds_same}
use Rattle.slang_print.specs.declared.files.Before.{Before}
use Rattle.slang_print.specs.declared.files.Before.TheVariants as b
use Rattle.slang_print.specs.Printed.{kind_seen, gap_of}

gaps_are : (before : Option DeclText) (decl : DeclText) → gap_of (kind_seen before) (kind_seen (Some decl)) ≡ gap_between before decl
gaps_are None (import_text word first path) = refl
gaps_are None (global_text fixed word n ty equals init) = refl
gaps_are None (record_text at datatype word n left fields right) = refl
gaps_are None (method_text m) = refl
gaps_are (Some (import_text w f p)) (import_text word first path) = refl
gaps_are (Some (import_text w f p)) (global_text fixed word n ty equals init) = refl
gaps_are (Some (import_text w f p)) (record_text at datatype word n left fields right) = refl
gaps_are (Some (import_text w f p)) (method_text m) = refl
gaps_are (Some (global_text x w o u e i)) (import_text word first path) = refl
gaps_are (Some (global_text x w o u e i)) (global_text fixed word n ty equals init) = refl
gaps_are (Some (global_text x w o u e i)) (record_text at datatype word n left fields right) = refl
gaps_are (Some (global_text x w o u e i)) (method_text m) = refl
gaps_are (Some (record_text x y w o l g r)) (import_text word first path) = refl
gaps_are (Some (record_text x y w o l g r)) (global_text fixed word n ty equals init) = refl
gaps_are (Some (record_text x y w o l g r)) (record_text at datatype word n left fields right) = refl
gaps_are (Some (record_text x y w o l g r)) (method_text m) = refl
gaps_are (Some (method_text o)) (import_text word first path) = refl
gaps_are (Some (method_text o)) (global_text fixed word n ty equals init) = refl
gaps_are (Some (method_text o)) (record_text at datatype word n left fields right) = refl
gaps_are (Some (method_text o)) (method_text m) = refl

abbrev one_line : Option DeclText → DeclText → List Piece
one_line before decl = decl_pieces (gap_between before decl) decl ++ mark none kind.Newline nowhere ∷ []

-- each with a newline behind it
abbrev lines_from : Option DeclText → List DeclText → List Piece
lines_from before [] = []
lines_from before (decl ∷ decls) = one_line before decl ++ lines_from (Some decl) decls

abbrev last_from : Option DeclText → List DeclText → Option DeclText
last_from before [] = before
last_from before (decl ∷ decls) = last_from (Some decl) decls

lines_more : (before : Option DeclText) (decls : List DeclText) (decl : DeclText) →
    lines_from before (decls ++ decl ∷ []) ≡ lines_from before decls ++ one_line (last_from before decls) decl
lines_more before [] decl = append-nil (one_line before decl)
lines_more before (other ∷ decls) decl =
    ap (λ l. one_line before other ++ l) (lines_more (Some other) decls decl)
    ∙ sym (append_assoc (one_line before other) (lines_from (Some other) decls) (one_line (last_from (Some other) decls) decl))

last_more : (before : Option DeclText) (decls : List DeclText) (decl : DeclText) → last_from before (decls ++ decl ∷ []) ≡ Some decl
last_more before [] decl = refl
last_more before (other ∷ decls) decl = last_more (Some other) decls decl

module _ (light : Bool) where
  lines_are : (before : Option DeclText) (decls : List DeclTree) →
      listed_pieces kind.Newline (λ own decl. decl_pieces (gap_between own decl) decl) before (map (λ decl. (decl_account light decl, nowhere)) decls) None
      ≡ lines_from before (map (decl_account light) decls)
  lines_are before [] = refl
  lines_are before (decl ∷ decls) =
      let own = decl_pieces (gap_between before (decl_account light decl)) (decl_account light decl) in
      ap (λ l. own ++ (mark none kind.Newline nowhere ∷ l)) (lines_are (Some (decl_account light decl)) decls)
      ∙ sym (append_assoc own (mark none kind.Newline nowhere ∷ []) (lines_from (Some (decl_account light decl)) (map (decl_account light) decls)))

  abbrev accounts : List Decl → List DeclText
  accounts decls = map (decl_account light) (map decl_tree decls)

  accounts_more : (decls : List Decl) (decl : Decl) → accounts (decls ++ decl ∷ []) ≡ accounts decls ++ decl_account light (decl_tree decl) ∷ []
  accounts_more [] decl = refl
  accounts_more (other ∷ decls) decl = ap (λ l. decl_account light (decl_tree other) ∷ l) (accounts_more decls decl)

  -- the declarations so far were added, and the kind of the last is known
  pub record AreAdded (old new : List ℕ) (decls : List Decl) (before : Before) : Type 0 where
    pub adds : Adds old new (lines_from None (accounts decls))
    pub last : before ≡ kind_seen (last_from None (accounts decls))

  pub none_added : {a : List ℕ} (decls : List Decl) → AreAdded a a (take 0 decls) b.Nothing
  none_added [] = record { adds = adds_none; last = refl }
  none_added (decl ∷ decls) = record { adds = adds_none; last = refl }

  -- one declaration more
  pub one_added : {a b c d : List ℕ} (decls : List Decl) (at : ℕ) (decl : Decl) (before own_kind : Before) (gap : Gap) → at < length decls →
      decl ≡ get_or decls at decl →
      AreAdded a b (take at decls) before → own_kind ≡ kind_seen (Some (decl_account light (decl_tree decl))) → gap ≡ gap_of before own_kind →
      Adds b c (decl_pieces gap (decl_account light (decl_tree decl))) → d ≡ c ++ codes "\n" → AreAdded a d (take (at + 1) decls) own_kind
  unfolding signs words
  one_added {a} {b} {c} {d} decls at decl before own_kind gap within is added kind_is gap_is adds newline =
      let own = decl_account light (decl_tree decl) in
      let more = ap accounts (take_more decls at decl within ∙ ap (λ x. take at decls ++ x ∷ []) (sym is)) ∙ accounts_more (take at decls) decl in
      let gap_same : gap ≡ gap_between (last_from None (accounts (take at decls))) own
      = gap_is ∙ ap (λ k. gap_of k own_kind) added.last ∙ ap (gap_of (kind_seen (last_from None (accounts (take at decls))))) kind_is
      ∙ gaps_are (last_from None (accounts (take at decls))) own in
      record {
        adds = adds_same _ _ (sym (lines_more None (accounts (take at decls)) own) ∙ ap (lines_from None) (sym more))
            (adds_then added.adds
            (adds_then (subst (λ g. Adds b c (decl_pieces g own)) gap_same adds) (adds_text kind.Newline nowhere (codes "\n") refl newline)));
        last = kind_is ∙ ap kind_seen (sym (last_more None (accounts (take at decls)) own) ∙ ap (last_from None) (sym more));
      }

  pub all_added : {a b : List ℕ} (decls shown : List Decl) (before : Before) → shown ≡ decls → AreAdded a b shown before →
      Adds a b (file_pieces (file_account light (map decl_tree decls)))
  all_added {a} {b} decls shown before is added =
      adds_same _ _ (sym (lines_are None (map decl_tree decls))) (subst (λ l. Adds a b (lines_from None (accounts l))) is added.adds)
