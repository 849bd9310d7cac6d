-- The names and the counts of declarations with one more.
use Rattle.std.proofs.Common.{◌≡◌, ℕ, ◌+◌, Bool, true, false, ◌||◌, Option, Some, None, List, [], ◌∷◌, ◌++◌, length, filter_map, refl, sym, ap, ◌∙◌, append-nil, length-append, arith}
use Rattle.std.specs.List.{cons_option}
use Rattle.std.specs.Set.{is_member}
use Rattle.std.specs.Str.{bytes_eq}
use Rattle.std.proofs.lemmas.List.{map-append}
use Rattle.std.proofs.lemmas.List.Elements.{filter_map-append}
use Rattle.std.proofs.lemmas.List.Folds.{list_any-append}
use Rattle.slang_tree.specs.declared.expression.Name.{Name}
use Rattle.slang_tree.specs.DeclTree.{DeclTree, MethodDeclTree, RecordDeclTree}
use Rattle.name_maps.specs.Names.{with_name}
use Rattle.name_maps.proofs.Tables.{bytes_eq-symm}
use Rattle.name_scopes.proofs.Named.{is_named-with}
use Rattle.type_rules.specs.Projects.{method_of, name_of, record_of}
use Rattle.declarations_before.specs.declared.counting.Counts.{Counts}
use Rattle.declarations_before.specs.Before.{AreCounts, HasNames, texts_of}

-- ---- names

turned : (b m : Bool) → (b || m) ≡ (m || (b || false))
turned true true = refl
turned true false = refl
turned false true = refl
turned false false = refl

-- a declaration of this name more
pub names_with : {X : Type 0} (table : List (List ℕ × X)) (value : X) (front : List DeclTree) (decl : DeclTree) (name : Name) →
    HasNames table front → name_of decl ≡ Some name → HasNames (with_name table name.text value) (front ++ decl ∷ [])
names_with table value front decl name has is text =
    let before = texts_of (filter_map name_of front) in
    let all : texts_of (filter_map name_of (front ++ decl ∷ [])) ≡ before ++ name.text ∷ [] =
    ap texts_of (filter_map-append name_of front (decl ∷ []))
    ∙ ap (λ o. texts_of (filter_map name_of front ++ cons_option o [])) is
    ∙ map-append (λ (n : Name). n.text) (filter_map name_of front) (name ∷ []) in
    is_named-with table name.text value text
    ∙ ap (λ b. bytes_eq name.text text || b) (has text)
    ∙ ap (λ b. b || is_member bytes_eq before text) (bytes_eq-symm name.text text)
    ∙ turned (bytes_eq text name.text) (is_member bytes_eq before text)
    ∙ sym (list_any-append (bytes_eq text) before (name.text ∷ []))
    ∙ ap (λ ts. is_member bytes_eq ts text) (sym all)

-- an import more
pub names_same : {X : Type 0} (table : List (List ℕ × X)) (front : List DeclTree) (decl : DeclTree) →
    HasNames table front → name_of decl ≡ None → HasNames table (front ++ decl ∷ [])
names_same table front decl has is text =
    has text
    ∙ ap (λ names. is_member bytes_eq (texts_of names) text)
    (sym (filter_map-append name_of front (decl ∷ []) ∙ ap (λ o. filter_map name_of front ++ cons_option o []) is ∙ append-nil (filter_map name_of front)))

-- ---- how many

count_more : {Y : Type 0} (h : DeclTree → Option Y) (front : List DeclTree) (decl : DeclTree) (o : Option Y) → h decl ≡ o →
    length (filter_map h (front ++ decl ∷ [])) ≡ length (filter_map h front) + length (cons_option o [])
count_more h front decl o is =
    ap length (filter_map-append h front (decl ∷ []) ∙ ap (λ p. filter_map h front ++ cons_option p []) is)
    ∙ length-append (filter_map h front) (cons_option o [])

none_more : {Y : Type 0} (h : DeclTree → Option Y) (front : List DeclTree) (decl : DeclTree) (n : ℕ) → h decl ≡ None →
    n ≡ length (filter_map h front) → n ≡ length (filter_map h (front ++ decl ∷ []))
none_more h front decl n is before = omega (arith, before, count_more h front decl None is)

one_more : {Y : Type 0} (h : DeclTree → Option Y) (front : List DeclTree) (decl : DeclTree) (y : Y) (n after : ℕ) → h decl ≡ Some y →
    n ≡ length (filter_map h front) → after ≡ n + 1 → after ≡ length (filter_map h (front ++ decl ∷ []))
one_more h front decl y n after is before next = omega (arith, before, next, count_more h front decl (Some y) is)

-- a declaration that is neither a record nor a method
pub counts_same : (counts : Counts) (front : List DeclTree) (decl : DeclTree) → record_of decl ≡ None → method_of decl ≡ None →
    AreCounts counts front → AreCounts counts (front ++ decl ∷ [])
counts_same counts front decl no_record no_method are = record {
  records = none_more record_of front decl counts.records no_record are.records;
  methods = none_more method_of front decl counts.methods no_method are.methods;
}

pub counts_record : (counts after : Counts) (front : List DeclTree) (decl : DeclTree) (own : RecordDeclTree) → record_of decl ≡ Some own → method_of decl ≡ None →
    after.records ≡ counts.records + 1 → after.methods ≡ counts.methods → AreCounts counts front → AreCounts after (front ++ decl ∷ [])
counts_record counts after front decl own is no_method more same are = record {
  records = one_more record_of front decl own counts.records after.records is are.records more;
  methods = none_more method_of front decl after.methods no_method (same ∙ are.methods);
}

pub counts_method : (counts after : Counts) (front : List DeclTree) (decl : DeclTree) (own : MethodDeclTree) → record_of decl ≡ None → method_of decl ≡ Some own →
    after.records ≡ counts.records → after.methods ≡ counts.methods + 1 → AreCounts counts front → AreCounts after (front ++ decl ∷ [])
counts_method counts after front decl own no_record is same more are = record {
  records = none_more record_of front decl after.records no_record (same ∙ are.records);
  methods = one_more method_of front decl own counts.methods after.methods is are.methods more;
}
