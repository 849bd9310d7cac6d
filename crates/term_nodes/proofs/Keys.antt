-- Keys that compare Equal stand for one node.
use Rattle.std.proofs.Common.{◌≡◌, Option, Some, None, Equal, Ordering, refl, ap, ap₂, subst, arith}
use Rattle.std.specs.Ordering.{ordering_then, nat_cmp, int_cmp}
use Rattle.std.specs.Option.{option_cmp}
use Rattle.std.specs.Cmp.Lexicographic.{slice_cmp}
use Rattle.std.proofs.lemmas.Cmp.{tied_itself, nat_cmp_total, lists_total}
use Rattle.std.proofs.lemmas.Map.Lookups.{exact_unsigned, exact_signed, exact_bytes}
use Rattle.tree_forms.specs.Order.{head_cmp}
use Rattle.tree_forms.proofs.Ordered.{head_cmp_total}
use Rattle.term_nodes.specs.declared.key.Key.{Key}
use Rattle.term_nodes.specs.Key.{KeyData, key_data, key_cmp}

then-Equal : (o p : Ordering) → ordering_then o p ≡ Equal → (o ≡ Equal) × (p ≡ Equal)
then-Equal o p e = grind arith

option_exact : (a b : Option _) → option_cmp int_cmp a b ≡ Equal → a ≡ b
option_exact None None e = refl
option_exact None (Some y) e = absurd (cc)
option_exact (Some x) None e = absurd (cc)
option_exact (Some x) (Some y) e = ap Some (exact_signed x y e)

-- keys that compare Equal stand for one node
pub key_cmp-Equal : (a b : Key) → key_cmp a b ≡ Equal → key_data a ≡ key_data b
key_cmp-Equal a b e =
    let both = then-Equal _ _ e in
    let h = then-Equal _ _ both.0 in
    let g = then-Equal _ _ h.1 in
    λ i. record {
      head = record { kind = exact_unsigned a.head.kind b.head.kind h.0 i; number = option_exact a.head.number b.head.number g.0 i; type_numbers = exact_bytes a.head.sort.items b.head.sort.items g.1 i };
      parts = exact_bytes a.parts.items b.parts.items both.1 i;
    }

tied_data : (a b : KeyData) → a ≡ b → ordering_then (head_cmp a.head b.head) (slice_cmp nat_cmp a.parts b.parts) ≡ Equal
tied_data a b e =
    subst (λ x. ordering_then (head_cmp a.head x.head) (slice_cmp nat_cmp a.parts x.parts) ≡ Equal) e
    (ap₂ ordering_then (tied_itself head_cmp_total a.head) (tied_itself (lists_total nat_cmp_total) a.parts))

pub key_cmp-same : (a b : Key) → key_data a ≡ key_data b → key_cmp a b ≡ Equal
key_cmp-same a b e = tied_data (key_data a) (key_data b) e
