-- The bytes of a path that is found.
use Rattle.std.proofs.Common.{◌≡◌, ◌≤◌, ◌*◌, ℕ, List, [], ◌∷◌, IsUtf8, chars, length, ap, arith, subst, Err}
use Rattle.std.proofs.{Math.Utf8.{encode, encodes}, lemmas.List.length-append}
use Rattle.std.proofs.lemmas.Str.{encodes-chars, len_utf8_bounds, length-encode}
use Rattle.wax_c.proofs.Room.{fits}
use Rattle.wax_c.specs.{Outcomes.{Fills, Output}, declared.error.CallError.CallError}
use Rattle.wax_c.specs.declared.error.CallError.TheVariants.{NoRoom}

-- a character takes 4 bytes at most
most_bytes : (cs : List ℕ) → length (encodes cs) ≤ 4 * length cs
most_bytes [] = omega arith
most_bytes (c ∷ cs) = omega (
  arith,
  most_bytes cs,
  length-append (encode c) (encodes cs),
  length-encode c,
  (len_utf8_bounds c).1,
)

pub few_bytes : (bytes : List ℕ) (most : ℕ) → IsUtf8 bytes → length (chars bytes) ≤ most
    → length bytes ≤ 4 * most
few_bytes bytes most utf8 few =
    omega (arith, most_bytes (chars bytes), ap length (encodes-chars bytes utf8), few)

-- an output of so many bytes isn't too small for a path of at most so many characters
pub has_room : (path bytes before : List ℕ) (output : Output) (most : ℕ) (error : CallError) → IsUtf8 path
    → length (chars path) ≤ most → bytes ≡ path
    → Fills (λ out. out ≡ bytes) before output (Err error) → output.bytes ≡ before
    → 4 * most ≤ length before → error ≡ NoRoom → ⊥
has_room path bytes before output most error utf8 few same fills kept enough is =
    fits bytes before output (4 * most) error (omega (arith, few_bytes path most utf8 few, ap length same))
    fills kept enough is

-- what holds of one thing holds of an equal one: two facts that have the values w and t in common
pub both_at : {W T X : Type 0} (P Q : W → T → X → Type 0) {w : W} {t : T} {x y : X} → x ≡ y
    → P w t x → Q w t x → P w t y × Q w t y
both_at P Q {w} {t} is p q = (subst (P w t) is p, subst (Q w t) is q)
