-- How much pieces come to, and how often characters are looked at.
use Rattle.std.proofs.Common.{◌≡◌, ℕ, zero, suc, ◌+◌, ◌*◌, ◌<◌, ◌≤◌, List, [], ◌∷◌, length, get_or, take}
use Rattle.std.proofs.Common.{drop, drop-cons, refl, sym, ◌∙◌, ap, subst, arith}
use Rattle.std.proofs.Math.Nat.{add-mul, mul-add, mul_assoc, mul-one, mul-le-mul_left, mul-le-mul_right}
use Rattle.wax_capture.specs.{Pieces.{forms_of, size_of}, inner.Splits.{all_sizes, split_visits}}
use Rattle.wax_capture.specs.declared.piece.Piece.{Piece}
use Rattle.wax_lengths.specs.{Forms.form_size, declared.form.Form.Form}

-- one form more
pub size_of_more : (ways : List Form) (k : ℕ) (w : Form) → k < length ways → w ≡ get_or ways k w →
    size_of (take (k + 1) ways) ≡ size_of (take k ways) + form_size w
size_of_more [] k w lt e = absurd (omega (arith, lt))
size_of_more (v ∷ ways) zero w lt e = let f : form_size w ≡ form_size v =
    ap (λ z. form_size z) e in omega (arith, f)
size_of_more (v ∷ ways) (suc k) w lt e =
    let n : suc k + 1 ≡ suc (k + 1) = omega arith in
    let f : size_of (take (k + 1) ways) ≡ size_of (take k ways) + form_size w =
    size_of_more ways k w (omega (arith, lt)) e in
    let g : size_of (take (suc (k + 1)) (v ∷ ways)) ≡ size_of (take (suc k) (v ∷ ways)) + form_size w =
    omega (arith, f) in
    rw n g

pub size_of_some : (ways : List Form) (k : ℕ) → size_of (take k ways) ≤ size_of ways
size_of_some [] zero = omega arith
size_of_some [] (suc k) = omega arith
size_of_some (v ∷ ways) zero = omega arith
size_of_some (v ∷ ways) (suc k) = omega (arith, size_of_some ways k)

pub size_of_further : (ways : List Form) (k m : ℕ) → k ≤ m → size_of (take k ways) ≤ size_of (take m ways)
size_of_further [] zero zero le = omega arith
size_of_further [] zero (suc m) le = omega arith
size_of_further [] (suc k) zero le = omega arith
size_of_further [] (suc k) (suc m) le = omega arith
size_of_further (v ∷ ways) zero m le = omega arith
size_of_further (v ∷ ways) (suc k) zero le = absurd (omega (arith, le))
size_of_further (v ∷ ways) (suc k) (suc m) le = omega (arith, size_of_further ways k m (omega (arith, le)))

-- one form alone
pub size_of_one : (ways : List Form) (k : ℕ) (w : Form) → k < length ways → w ≡ get_or ways k w
    → form_size w ≤ size_of ways
size_of_one ways k w lt e = omega (arith, size_of_more ways k w lt e, size_of_some ways (k + 1))

-- the reads of one form more
pub reads_more : (old mid new all more n : ℕ) → mid ≤ old + all * n → new ≤ mid + more * n
    → new ≤ old + (all + more) * n
reads_more old mid new all more n h g = omega (arith, h, g, add-mul all more n)

pub reads_fewer : (old new some all n : ℕ) → some ≤ all → new ≤ old + some * n → new ≤ old + all * n
reads_fewer old new some all n le h = omega (arith, h, mul-le-mul_right n le)

pub reads_way : (ways : List Form) (k : ℕ) (w : Form) → k < length ways → w ≡ get_or ways k w
    → (old mid new n : ℕ) →
    mid ≤ old + size_of (take k ways) * n → new ≤ mid + form_size w * n
    → new ≤ old + size_of (take (k + 1) ways) * n
reads_way ways k w lt e old mid new n h g =
    rw (size_of_more ways k w lt e) (reads_more old mid new (size_of (take k ways)) (form_size w) n h g)

pub all_more : (ps : List Piece) (i : ℕ) (p : Piece) → i < length ps → p ≡ get_or ps i p
    → all_sizes (drop i ps) ≡ size_of (forms_of p.ways) + all_sizes (drop (i + 1) ps)
all_more ps i p lt e =
    let m : suc i ≡ i + 1 = omega arith in
    ap all_sizes (drop-cons ps i p lt ∙ ap (λ z. z ∷ drop (suc i) ps) (sym e) ∙ ap (λ k. p ∷ drop k ps) m)

pub all_some : (ps : List Piece) (i : ℕ) → all_sizes (drop i ps) ≤ all_sizes ps
all_some [] zero = omega arith
all_some [] (suc i) = omega arith
all_some (p ∷ ps) zero = omega arith
all_some (p ∷ ps) (suc i) = omega (arith, all_some ps i)

-- the reads of one row more
pub reads_row : (old mid new more all n : ℕ) → mid ≤ old + all * n → new ≤ mid + more * n
    → new ≤ old + (more + all) * n
reads_row old mid new more all n h g = omega (arith, h, g, add-mul more all n)

-- the reads of one place more of a row: what is left of the text has at most n characters
pub reads_place : (old mid new more left n at : ℕ) → left ≤ n → mid ≤ old + more * (n * at)
    → new ≤ mid + more * left → new ≤ old + more * (n * (at + 1))
reads_place old mid new more left n at le h g =
    let a : more * left ≤ more * n = mul-le-mul_left more le in
    let b : n * (at + 1) ≡ n * at + n = mul-add n at 1 ∙ ap (λ z. n * at + z) (mul-one n) in
    let d : more * (n * (at + 1)) ≡ more * (n * at) + more * n =
    ap (λ z. more * z) b ∙ mul-add more (n * at) n in
    omega (arith, h, g, a, d)

pub reads_step : (ps : List Piece) (i j : ℕ) (p : Piece) → j ≡ i + 1 → i < length ps → p ≡ get_or ps i p
    → (old mid new n : ℕ) →
    mid ≤ old + all_sizes (drop j ps) * n → new ≤ mid + size_of (forms_of p.ways) * n
    → new ≤ old + all_sizes (drop i ps) * n
reads_step ps i j p next lt e old mid new n h g =
    let m : mid ≤ old + all_sizes (drop (i + 1) ps) * n =
    subst (λ k. mid ≤ old + all_sizes (drop k ps) * n) next h in
    rw (all_more ps i p lt e)
    (reads_row old mid new (size_of (forms_of p.ways)) (all_sizes (drop (i + 1) ps)) n m g)

-- ---- from left to right
pub all_taken : (ps : List Piece) (i : ℕ) (p : Piece) → i < length ps → p ≡ get_or ps i p
    → all_sizes (take (i + 1) ps) ≡ all_sizes (take i ps) + size_of (forms_of p.ways)
all_taken [] i p lt e = absurd (omega (arith, lt))
all_taken (q ∷ ps) zero p lt e = let f : size_of (forms_of p.ways) ≡ size_of (forms_of q.ways) =
    ap (λ z. size_of (forms_of z.ways)) e in omega (arith, f)
all_taken (q ∷ ps) (suc i) p lt e =
    let n : suc i + 1 ≡ suc (i + 1) = omega arith in
    let f : all_sizes (take (i + 1) ps) ≡ all_sizes (take i ps) + size_of (forms_of p.ways) =
    all_taken ps i p (omega (arith, lt)) e in
    let g : all_sizes (take (suc (i + 1)) (q ∷ ps))
    ≡ all_sizes (take (suc i) (q ∷ ps)) + size_of (forms_of p.ways) = omega (arith, f) in
    rw n g

pub some_taken : (ps : List Piece) (i : ℕ) → all_sizes (take i ps) ≤ all_sizes ps
some_taken [] zero = omega arith
some_taken [] (suc i) = omega arith
some_taken (p ∷ ps) zero = omega arith
some_taken (p ∷ ps) (suc i) = omega (arith, some_taken ps i)

-- one piece alone
pub reads_piece : (ps : List Piece) (i : ℕ) (p : Piece) → i < length ps → p ≡ get_or ps i p → (n : ℕ)
    → size_of (forms_of p.ways) * n ≤ all_sizes ps * n
reads_piece ps i p lt e n =
    let one : size_of (forms_of p.ways) ≤ all_sizes ps =
    omega (arith, all_taken ps i p lt e, some_taken ps (i + 1)) in
    mul-le-mul_right n one

-- a trial's next length
pub reads_next : (ps : List Piece) (i : ℕ) (p : Piece) → i < length ps → p ≡ get_or ps i p
    → (old mid new left limit n : ℕ) → mid ≤ old + limit →
    left ≤ all_sizes ps * n → new ≤ mid + left + size_of (forms_of p.ways) * n
    → new ≤ old + limit + 2 * (all_sizes ps * n)
reads_next ps i p lt e old mid new left limit n h few g = omega (arith, h, few, g, reads_piece ps i p lt e n)

-- a row of the text is in its square
pub row_square : (all m : ℕ) → all * (m + 1) ≤ all * ((m + 1) * (m + 1))
row_square all m =
    let one : 1 ≤ m + 1 = omega arith in
    let b : (m + 1) * 1 ≤ (m + 1) * (m + 1) = mul-le-mul_left (m + 1) one in
    let b2 : m + 1 ≤ (m + 1) * (m + 1) = omega (arith, b, mul-one (m + 1)) in
    mul-le-mul_left all b2

-- ---- within the stated numbers of visits
pub visits_square : (all cost new m : ℕ) → all ≤ cost → new ≤ split_visits all m
    → new ≤ 4 * (cost * ((m + 1) * (m + 1)))
visits_square all cost new m few h =
    omega (arith, h, row_square all m, mul-le-mul_right ((m + 1) * (m + 1)) few)

-- and a visit for each character of a text that is matched
taken_row : (all m : ℕ) → (all ≡ 0 → m ≡ 0) → m + 2 * (all * (m + 1)) ≤ 2 * (all * ((m + 1) * (m + 1)))
taken_row zero m none = let empty : m ≡ 0 = none refl in omega (arith, empty)
taken_row (suc k) m none =
    let all : ℕ = suc k in
    let q : ℕ = m + 1 in
    let a : q * q ≡ q * m + q = mul-add q m 1 ∙ ap (λ z. q * m + z) (mul-one q) in
    let b : all * (q * q) ≡ all * (q * m) + all * q = ap (λ z. all * z) a ∙ mul-add all (q * m) q in
    let one : 1 ≤ all = omega arith in
    let d : 1 * (q * m) ≤ all * (q * m) = mul-le-mul_right (q * m) one in
    let first : 1 ≤ q = omega arith in
    let e : 1 * m ≤ q * m = mul-le-mul_right m first in
    omega (arith, b, d, e)

pub visits_taken : (all cost new m : ℕ) → all ≤ cost → (all ≡ 0 → m ≡ 0) → new ≤ split_visits all m + m
    → new ≤ 4 * (cost * ((m + 1) * (m + 1)))
visits_taken all cost new m few none h =
    omega (arith, h, taken_row all m none, mul-le-mul_right ((m + 1) * (m + 1)) few)

pub visits_cube : (cost new m : ℕ) → new ≤ 4 * (cost * ((m + 1) * (m + 1)))
    → new ≤ 8 * ((cost + 1) * ((m + 1) * ((m + 1) * (m + 1))))
visits_cube cost new m h =
    let n : ℕ = m + 1 in
    let d : cost * (n * n) ≤ (cost + 1) * (n * n) =
    mul-le-mul_right (n * n) (let e : cost ≤ cost + 1 = omega arith in e) in
    let one : 1 ≤ n = omega arith in
    let f : n * n * 1 ≤ n * n * n = mul-le-mul_left (n * n) one in
    let f2 : n * n ≤ n * (n * n) = omega (arith, f, mul-one (n * n), mul_assoc n n n) in
    let g : (cost + 1) * (n * n) ≤ (cost + 1) * (n * (n * n)) = mul-le-mul_left (cost + 1) f2 in
    omega (arith, h, d, g)
