use Rattle.std.proofs.Common.{◌∙◌, ◌++◌, ◌∷◌, [], Some, true, ap, cond, sym, subst}
use Rattle.std.specs.Prelude.{slice_get}
use Rattle.std.specs.List.{position}
use Rattle.std.specs.Str.{bytes_eq}
use Rattle.key_store.specs.Keys.{AreDistinct, is_kept, number_of, with_key}
use Rattle.key_store.specs.Inside.{bytes_of_all}
use Rattle.key_store.proofs.Numbers.{added, behind, distinct_with, kept_there, place_of_bytes, position_bytes}
use Rattle.key_store.proofs.key_store.KeyStore.intern.Goals as goal

pub returns-in-Some-clause-keys : goal.returns-in-Some-clause-keys
returns-in-Some-clause-keys c =
    let found = kept_there c.args.self.now c.args.key.now c.in-Some.number
    (c.in-Some.ensures.index ∙ position_bytes c.args.key.now c.self.inside.keys.keys ∙ ap (position (bytes_eq c.args.key.now)) c.self.view_is) in
    sym (ap (λ b. cond b c.args.self.now (c.args.self.now ++ c.args.key.now ∷ [])) found.2)

pub returns-in-Some-clause-number : goal.returns-in-Some-clause-number
returns-in-Some-clause-number c =
    let found = kept_there c.args.self.now c.args.key.now c.in-Some.number
    (c.in-Some.ensures.index ∙ position_bytes c.args.key.now c.self.inside.keys.keys ∙ ap (position (bytes_eq c.args.key.now)) c.self.view_is) in
    found.0

pub returns-in-Some-clause-key : goal.returns-in-Some-clause-key
returns-in-Some-clause-key c =
    let found = kept_there c.args.self.now c.args.key.now c.in-Some.number
    (c.in-Some.ensures.index ∙ position_bytes c.args.key.now c.self.inside.keys.keys ∙ ap (position (bytes_eq c.args.key.now)) c.self.view_is) in
    found.1

pub invariant_of-self-2 : goal.invariant_of-self-2
invariant_of-self-2 c =
    let keys = c.self.inside.keys.keys in
    subst AreDistinct (sym (ap bytes_of_all c.in_ok-number.ensures.keys ∙ added c.args.key.now c.in_ok-key.key keys c.in_ok-key.ensures.items))
    (distinct_with (bytes_of_all keys) c.args.key.now c.self.invariant)

pub returns-clause-keys : goal.returns-clause-keys
returns-clause-keys c =
    ap bytes_of_all c.in_ok-number.ensures.keys ∙ added c.args.key.now c.in_ok-key.key c.self.inside.keys.keys c.in_ok-key.ensures.items
    ∙ ap (λ l. with_key l c.args.key.now) c.self.view_is

pub returns-clause-number : goal.returns-clause-number
returns-clause-number c =
    c.in_ok-number.ensures.index ∙ place_of_bytes c.in_ok-key.key.items c.self.inside.keys.keys
    ∙ ap (number_of (bytes_of_all c.self.inside.keys.keys)) c.in_ok-key.ensures.items ∙ ap (λ l. number_of l c.args.key.now) c.self.view_is

pub returns-clause-key : goal.returns-clause-key
returns-clause-key c =
    let number = c.in_ok-number.ensures.index ∙ place_of_bytes c.in_ok-key.key.items c.self.inside.keys.keys
    ∙ ap (number_of (bytes_of_all c.self.inside.keys.keys)) c.in_ok-key.ensures.items ∙ ap (λ l. number_of l c.args.key.now) c.self.view_is in
    ap (λ l. slice_get l c.in_ok-number.number)
    (ap bytes_of_all c.in_ok-number.ensures.keys ∙ added c.args.key.now c.in_ok-key.key c.self.inside.keys.keys c.in_ok-key.ensures.items
    ∙ ap (λ l. with_key l c.args.key.now) c.self.view_is)
    ∙ ap (slice_get (with_key c.args.self.now c.args.key.now)) number ∙ behind c.args.self.now c.args.key.now
