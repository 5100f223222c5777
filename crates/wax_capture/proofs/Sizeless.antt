-- Pieces that come to nothing take the empty text alone.
use Rattle.std.proofs.Common.{◌≡◌, ◌≤◌, ℕ, zero, suc, Bool, List, [], ◌∷◌, Some, slice_get, length, take}
use Rattle.std.proofs.Common.{drop, refl, ap, inl, inr, arith, length-take, length-drop}
use Rattle.std.proofs.{lemmas.List.nil_from_length, lemmas.Option.slice_get_within}
use Rattle.wax_program.specs.{declared.instruction.Instruction.Instruction, Machine.AcceptsIn}
use Rattle.wax_lengths.specs.{declared.form.Form.Form, Forms.{SpelledBy, TakenBy, form_size}}
use Rattle.wax_lengths.proofs.Lists.{some_same}
use Rattle.wax_capture.specs.{Pieces.{forms_of, size_of}, inner.Splits.{CapturedBy, Splits, all_sizes}}
use Rattle.wax_capture.specs.declared.piece.Piece.{Piece}
use Rattle.wax_lengths.specs.declared.form.Form.TheVariants as form

spelled_nothing : (folded : Bool) (letters x : List ℕ) → length letters ≡ 0
    → SpelledBy folded letters x → x ≡ []
spelled_nothing folded [] [] none h = refl
spelled_nothing folded [] (c ∷ x) none h = absurd h
spelled_nothing folded (letter ∷ letters) x none h = absurd (omega (arith, none))

accepts_nothing : (code : List Instruction) (n : ℕ) (x : List ℕ) → length code ≡ 0
    → AcceptsIn code n 0 x → x ≡ []
accepts_nothing code zero x none h = absurd h
accepts_nothing code (suc n) x none (inl h) = h.1
accepts_nothing code (suc n) x none (inr h) = absurd (past (slice_get_within code 0 h.0 h.1))
  where
    past : 1 ≤ length code → ⊥
    past lt = omega (arith, lt, none)

taken_nothing : (f : Form) (x : List ℕ) → form_size f ≡ 0 → TakenBy f x → x ≡ []
taken_nothing (form.One test) x none h = absurd (omega (arith, none))
taken_nothing (form.Text letters folded) x none h = spelled_nothing folded letters.items x none h
taken_nothing form.Name x none h = absurd (omega (arith, none))
taken_nothing form.SlashOrNothing x none h = absurd (omega (arith, none))
taken_nothing (form.Tree sides rooted) x none h = absurd (omega (arith, none))
taken_nothing (form.Run test low high) x none h = absurd (omega (arith, none))
taken_nothing (form.Coded program) x none h = accepts_nothing program.0 h.0 x (omega (arith, none)) h.1

form_nothing : (forms : List Form) (k : ℕ) (f : Form) → size_of forms ≡ 0
    → slice_get forms k ≡ Some f → form_size f ≡ 0
form_nothing [] k f none is = absurd (past (slice_get_within [] k f is))
  where
    past : suc k ≤ 0 → ⊥
    past lt = omega (arith, lt)
form_nothing (g ∷ forms) zero f none is =
    let same : form_size g ≡ form_size f = ap form_size (some_same is) in
    omega (arith, none, same)
form_nothing (g ∷ forms) (suc k) f none is = form_nothing forms k f (omega (arith, none)) is

splits_nothing : (ps : List Piece) (s : List ℕ) → all_sizes ps ≡ 0 → Splits ps s → s ≡ []
splits_nothing [] s none h = h
splits_nothing (p ∷ ps) s none (k, n, le, way, rest) =
    let first : take n s ≡ [] = taken_nothing way.0 (take n s)
    (form_nothing (forms_of p.ways) k way.0 (omega (arith, none)) way.1) way.2 in
    let last : drop n s ≡ [] = splits_nothing ps (drop n s) (omega (arith, none)) rest in
    nil_from_length s (omega (arith, le, length-take n s, length-drop n s, ap length first, ap length last))

captured_nothing : (ps : List Piece) (s : List ℕ) (captures : List (List ℕ)) → all_sizes ps ≡ 0
    → CapturedBy ps s captures → s ≡ []
captured_nothing [] s captures none h = h.0
captured_nothing (p ∷ ps) s captures none h =
    splits_nothing (p ∷ ps) s none (h.1.way, h.0, h.1.fits.0, h.1.fits.1, h.1.fits.2)

-- so where they take a text with a character, they come to something
pub captured_length : (ps : List Piece) (s : List ℕ) (captures : List (List ℕ)) → CapturedBy ps s captures
    → all_sizes ps ≡ 0 → length s ≡ 0
captured_length ps s captures h none = ap length (captured_nothing ps s captures none h)
