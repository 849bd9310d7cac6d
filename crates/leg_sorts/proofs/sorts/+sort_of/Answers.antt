use Rattle.std.proofs.Common.{◌≡◌, ◌<◌, ap, sym, ◌∙◌, subst, arith}
use Rattle.lk_claims.specs.declared.ty.Ty.{Ty, size-Ty}
use Rattle.lk_claims.specs.declared.ty.Ty.TheVariants.{Seq}
use Rattle.lk_claims.specs.declared.ty.Ty.TheViews.{sized-Seq}
use Rattle.lk_claims.specs.Claim.{value_type}
use Rattle.lk_claims.proofs.Types.{value_type-Seq}
use Rattle.leg_sorts.specs.Sorts.{has_sort}
use Rattle.leg_sorts.proofs.sorts.+sort_of.Goals as goal

element_is_smaller : (ty element : Ty) → ty ≡ Seq element → size-Ty element < size-Ty ty
element_is_smaller ty element is = subst (λ t. size-Ty element < size-Ty t) (sym is) (omega (arith, sized-Seq element))

pub sort_of-requires : goal.sort_of-requires
sort_of-requires t c =
    let smaller = element_is_smaller c.args.ty.now c.in-Seq.element c.in-Seq.is in
    let same = ap size-Ty c.get.ensures in (
      omega (arith, smaller, same),
      ap (λ ty. has_sort (value_type ty)) c.get.ensures ∙ sym (ap has_sort (ap value_type c.in-Seq.is ∙ value_type-Seq c.in-Seq.element)) ∙ c.requires,
    )
