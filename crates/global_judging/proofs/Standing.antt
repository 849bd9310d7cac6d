-- Where a record stands among those of a project.
use Rattle.std.proofs.Common.{◌≡◌, ℕ, List, [], ◌∷◌, ◌++◌, length, get_or, map, filter_map, sym, ap, ◌∙◌}
use Rattle.std.proofs.Math.Seq.{get_or-append_seam}
use Rattle.std.proofs.lemmas.List.{length-map, map-append}
use Rattle.std.proofs.lemmas.List.Elements.{filter_map-append}
use Rattle.slang_tree.specs.DeclTree.{DeclTree, RecordDeclTree, record_decl}
use Rattle.type_rules.specs.Projects.{outline_names, record_of, written_fields}
use Rattle.record_judging.specs.Written.{types_written}

-- What is written for the types of its fields stands at its number.
pub written_at : (decls front rest : List DeclTree) (own : RecordDeclTree) (n : ℕ) →
    decls ≡ front ++ record_decl own ∷ rest → n ≡ length (filter_map record_of front) →
    get_or (written_fields decls) n [] ≡ types_written (outline_names decls) own.fields
written_at decls front rest own n stands count =
    let names = outline_names decls in
    let F = λ (r : RecordDeclTree). types_written names r.fields in
    let first = filter_map record_of front in
    let later = filter_map record_of rest in
    let all : filter_map record_of decls ≡ first ++ own ∷ later =
    ap (filter_map record_of) stands ∙ filter_map-append record_of front (record_decl own ∷ rest) in
    ap (λ rs. get_or (map F rs) n []) all
    ∙ ap (λ ts. get_or ts n []) (map-append F first (own ∷ later))
    ∙ ap (λ k. get_or (map F first ++ F own ∷ map F later) k []) (count ∙ sym (length-map first F))
    ∙ get_or-append_seam (map F first) (F own) (map F later) []
