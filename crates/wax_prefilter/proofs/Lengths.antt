-- How long meant texts are.
use Rattle.std.proofs.Common.{◌≡◌, ℕ, zero, suc, ◌+◌, ◌*◌, ◌<◌, ◌≤◌, Bool, true, false, List, [], ◌∷◌, ◌++◌}
use Rattle.std.proofs.Common.{length, get_or, drop, chars, refl, sym, ◌∙◌, ap, subst, arith, append-nil}
use Rattle.std.proofs.{Common.length-append, Math.Nat.mul-le-mul_left}
use Rattle.std.proofs.lemmas.Str.{encodes-chars, length-le-encodes}
use Rattle.std.specs.Str.{IsUtf8}
use Rattle.wax_prefilter.proofs.MeantEdges.{drop_here}
use Rattle.wax_token.specs.{Meaning.{Means, MeansEach, SameText, Copies}, Reads.Span, Syntax.Tree}
use Rattle.wax_token.specs.Words.{trees}

pub chars_short : (text : List ℕ) → IsUtf8 text → length (chars text) ≤ length text
chars_short text u =
    subst (λ z. length (chars text) ≤ length z) (encodes-chars text u) (length-le-encodes (chars text))

pub same_length : (b : Bool) (t s : List ℕ) → SameText b t s → length t ≤ length s
same_length b [] [] h = omega arith
same_length b [] (d ∷ s) h = absurd h
same_length b (c ∷ t) [] h = absurd h
same_length false (c ∷ t) (d ∷ s) h = omega (arith, same_length false t s h.1)
same_length true (c ∷ t) (d ∷ s) h = omega (arith, same_length true t s h.1)

-- copies are together as long as each, so many times
copies_length : (Body : Bool → Bool → List ℕ → Type 0) (n : ℕ)
    → ((b a : Bool) (x : List ℕ) → Body b a x → n ≤ length x)
    → (k : ℕ) (b a : Bool) (s : List ℕ) → Copies k Body b a s → n * k ≤ length s
copies_length Body n h zero b a s c = omega arith
copies_length Body n h (suc zero) b a s c = omega (arith, h b a s c)
copies_length Body n h (suc (suc k)) b a s c =
    let whole : length s ≡ length c.0 + length c.1 = ap length c.2 ∙ length-append c.0 c.1 in
    omega (arith, whole, h b true c.0 c.3, copies_length Body n h (suc k) true a c.1 c.4)

pub repeated_length : (Body : Bool → Bool → List ℕ → Type 0) (n low : ℕ)
    → ((b a : Bool) (x : List ℕ) → Body b a x → n ≤ length x)
    → (k : ℕ) → low ≤ k → (b a : Bool) (s : List ℕ) → Copies k Body b a s → n * low ≤ length s
repeated_length Body n low h k le b a s c =
    omega (arith, mul-le-mul_left n le, copies_length Body n h k b a s c)

-- the first of some tokens means a beginning, and the others the rest
first_then : (t : Tree Span) (us : List (Tree Span)) (before after : Bool) (s : List ℕ)
    → MeansEach (trees (t ∷ us)) before after s
    → (c : Bool) × (d : Bool) × (x : List ℕ) × (y : List ℕ) × (s ≡ x ++ y) × Means t before c x
    × MeansEach (trees us) d after y
first_then t [] before after s h = (after, before, s, [], sym (append-nil s), h, refl)
first_then t (u ∷ us) before after s h = (true, true, h.0, h.1, h.2, h.3, h.4)

-- after i tokens: what the others mean is so much shorter than the whole
abbrev pub LeftAfter : List (Tree Span) → ℕ → ℕ → Type 0
LeftAfter ts i sum = (before after : Bool) (s : List ℕ) → MeansEach (trees ts) before after s
    → (b : Bool) × (y : List ℕ) × (sum + length y ≤ length s) × MeansEach (trees (drop i ts)) b after y

pub left_more : (ts : List (Tree Span)) (i : ℕ) (t : Tree Span) (sum least sum' : ℕ)
    → i < length ts → t ≡ get_or ts i t
    → ((b a : Bool) (x : List ℕ) → Means t b a x → least ≤ length x) → sum' ≤ sum + least → LeftAfter ts i sum
    → LeftAfter ts (i + 1) sum'
left_more ts i t sum least sum' lt e short le so_far before after s h =
    let r : (b : Bool) × (y : List ℕ) × (sum + length y ≤ length s)
    × MeansEach (trees (drop i ts)) b after y = so_far before after s h in
    let q : (c : Bool) × (f : Bool) × (x : List ℕ) × (z : List ℕ) × (r.1 ≡ x ++ z) × Means t r.0 c x
    × MeansEach (trees (drop (i + 1) ts)) f after z =
    first_then t (drop (i + 1) ts) r.0 after r.1
    (subst (λ z. MeansEach (trees z) r.0 after r.1) (drop_here ts i t lt e) r.3) in
    let whole : length r.1 ≡ length q.2 + length q.3 = ap length q.4 ∙ length-append q.2 q.3 in
    (q.1, q.3, (omega (arith, r.2, whole, short r.0 q.0 q.2 q.5, le)), q.6)
