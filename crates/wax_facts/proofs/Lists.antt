-- Texts joined.
use Rattle.std.proofs.Common.{List, [], refl, ℕ, ◌++◌, ◌∷◌, ◌≡◌}

pub nil_left : {A : Type 0} (x y : List A) → x ++ y ≡ [] → x ≡ []
nil_left [] y e = refl
nil_left (c ∷ x) y e = absurd (let f : ⊥ = cc in f)

pub nil_right : {A : Type 0} (x y : List A) → x ++ y ≡ [] → y ≡ []
nil_right [] y e = e
nil_right (c ∷ x) y e = absurd (let f : ⊥ = cc in f)

pub cons_nil : (c : ℕ) (x : List ℕ) → c ∷ x ≡ [] → ⊥
cons_nil c x e = cc

pub same_back : (x y z : List ℕ) → x ++ y ≡ x ++ z → y ≡ z
same_back [] y z e = e
same_back (c ∷ x) y z e = same_back x y z (let f : x ++ y ≡ x ++ z = cc in f)

pub same_nil : (x y : List ℕ) → x ++ y ≡ x → y ≡ []
same_nil [] y e = e
same_nil (c ∷ x) y e = same_nil x y (let f : x ++ y ≡ x = cc in f)
