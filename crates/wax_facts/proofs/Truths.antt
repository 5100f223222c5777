-- Truth values.
use Rattle.std.proofs.Common.{Bool, false, inl, inr, refl, sym, true, ◌&&◌, ◌||◌, ◌≡◌, ◌⊎◌}

pub true_false : {C : Type 0} → true ≡ false → C
true_false e = absurd (let f : ⊥ = cc in f)

pub false_true : {C : Type 0} → false ≡ true → C
false_true e = absurd (let f : ⊥ = cc in f)

pub or_right : (a b : Bool) → (a || b) ≡ false → b ≡ false
or_right true b e = true_false e
or_right false b e = e

pub or_left : (a b : Bool) → (a || b) ≡ false → a ≡ false
or_left true b e = true_false e
or_left false b e = refl

pub true_or : (a b : Bool) → a ≡ true → (a || b) ≡ true
true_or true b e = refl
true_or false b e = true_false (sym e)

pub false_or : (a b : Bool) → a ≡ false → b ≡ false → (a || b) ≡ false
false_or true b e f = true_false e
false_or false b e f = f

pub or_false : (a b : Bool) → (a || b) ≡ false → (a ≡ false) × (b ≡ false)
or_false true b e = absurd (let g : ⊥ = cc in g)
or_false false b e = (refl, e)

pub true_and : (a b : Bool) → a ≡ true → b ≡ true → (a && b) ≡ true
true_and true b e f = f
true_and false b e f = absurd (let g : ⊥ = cc in g)

pub and_parts : (a b : Bool) → (a && b) ≡ true → (a ≡ true) × (b ≡ true)
and_parts true b e = (refl, e)
and_parts false b e = absurd (let f : ⊥ = cc in f)

pub or_parts : (a b : Bool) → (a || b) ≡ true → (a ≡ true) ⊎ (b ≡ true)
or_parts true b e = inl refl
or_parts false b e = inr e

pub and_left : (a b : Bool) → (a && b) ≡ false → b ≡ true → a ≡ false
and_left true b e f = absurd (let g : ⊥ = cc in g)
and_left false b e f = refl

pub and_right : (a b : Bool) → (a && b) ≡ false → a ≡ true → b ≡ false
and_right true b e f = e
and_right false b e f = absurd (let g : ⊥ = cc in g)
