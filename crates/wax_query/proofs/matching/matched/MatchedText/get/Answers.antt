use Rattle.std.proofs.Common.{◌≡◌, ◌∷◌, ◌-◌, ◌<◌, ◌≤◌, ℕ, suc, List, length, map, get_or, Some, slice_get}
use Rattle.std.proofs.Common.{rules, arith, refl, sym, ◌∙◌, ap, subst}
use Rattle.std.proofs.lemmas.Option.{slice_get-map, slice_get_read}
use Rattle.std.specs.{Cow.cow_str_bytes, List.slice_range, Option.option_map, Str.chars}
use Rattle.wax_query.specs.{Matched.{MatchedView, texts}, Parts.cut}
use Rattle.wax_query.proofs.matching.matched.MatchedText.get.Goals as goal

capture_at : (text : List ℕ) (bytes : List ℕ) (items : List (ℕ × ℕ)) (index : ℕ) (place : ℕ × ℕ) → 1 ≤ index
    → index - 1 < length items → place ≡ get_or items (index - 1) place →
    slice_get (text ∷ map (cut bytes) items) index ≡ Some (cut bytes place)
capture_at text bytes items index place some lt is =
    let n : index ≡ suc (index - 1) = omega (arith, some) in
    ap (slice_get (text ∷ map (cut bytes) items)) n ∙ slice_get-map (cut bytes) items (index - 1)
    ∙ ap (option_map (cut bytes)) (slice_get_read items (length items) (index - 1) place refl lt is)

pub returns : goal.returns
returns c =
    let bytes : List ℕ = cow_str_bytes c.self.inside.text in
    let items = c.self.inside.captures.items in
    let place = c.in_ok-start.field-0.now in
    let seen : MatchedView = record { text = chars bytes; captures = map (cut bytes) items } in
    let view : seen ≡ c.args.self.now = c.self.view_is in
    let some : 1 ≤ c.args.index = search rules in
    let found = c.in_ok-start.ensures.lookup in
    let lt : c.args.index - 1 < length items =
    subst (λ z. c.args.index - 1 < length z) c.deref.ensures.value found.3.0 in
    let is : place ≡ get_or items (c.args.index - 1) place =
    subst (λ z. place ≡ get_or z (c.args.index - 1) place) c.deref.ensures.value found.1 in
    let text : c.range.result.now ≡ slice_range bytes place.0 place.1 =
    c.range.ensures.value ∙ ap (λ z. slice_range z place.0 place.1) c.as_str.ensures.value in
    subst (λ v. slice_get (texts v) c.args.index ≡ Some (chars c.range.result.now)) view
    (capture_at (chars bytes) bytes items c.args.index place some lt is ∙ ap (λ z. Some (chars z)) (sym text))
