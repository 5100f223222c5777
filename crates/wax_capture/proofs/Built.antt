-- The pieces of tokens that stand one after another.
use Rattle.std.proofs.Common.{◌≡◌, ℕ, zero, suc, ◌+◌, ◌<◌, ◌≤◌, Bool, true, false, List, [], ◌∷◌, ◌++◌}
use Rattle.std.proofs.Common.{length, get_or, drop, reverse, ltb, refl, sym, ◌∙◌, ap, subst, inl, inr, arith}
use Rattle.std.proofs.{lemmas.Bool.cases_lt, lemmas.List.{drop_all, reverse-append}}
use Rattle.wax_token.specs.{Cost.{cost, costs}, Syntax.{Tree, Trees, none, more}, Words.trees}
use Rattle.wax_capture.specs.{Captures.has_more, Pieces.{ArePieces, IsPiece}, inner.Splits.all_sizes}
use Rattle.wax_capture.specs.declared.piece.Piece.{Piece}

-- ---- all tokens
pub record There {A : Type 0} (ts : List (Tree A)) (i : ℕ) (t : Tree A) : Type 0 where
  pub from : trees (drop i ts) ≡ more t (trees (drop (i + 1) ts))
  pub next : has_more (trees (drop (i + 1) ts)) ≡ ltb (i + 1) (length ts)
  pub cheap : cost t ≤ costs (trees ts)

next_of : {A : Type 0} (ts : List (Tree A)) (k : ℕ) → has_more (trees (drop k ts)) ≡ ltb k (length ts)
next_of ts k = elim (cases_lt k (length ts)) [
  | inl lt ↦ some_next ts k lt ∙ sym (lt-ltb k (length ts) lt)
  | inr ge ↦ ap (λ z. has_more (trees z)) (drop_all k ts ge) ∙ sym (le-ltb k (length ts) ge)
]
  where
    some_next : {A : Type 0} (ts : List (Tree A)) (k : ℕ) → k < length ts
        → has_more (trees (drop k ts)) ≡ true
    some_next [] k lt = absurd (omega (arith, lt))
    some_next (t ∷ ts) zero lt = refl
    some_next (t ∷ ts) (suc k) lt = some_next ts k (omega (arith, lt))

    lt-ltb : (m n : ℕ) → m < n → ltb m n ≡ true
    lt-ltb m n lt = grind (arith, lt)

    le-ltb : (m n : ℕ) → n ≤ m → ltb m n ≡ false
    le-ltb m n le = grind (arith, le)

there_at : {A : Type 0} (ts : List (Tree A)) (i : ℕ) (t : Tree A) → i < length ts → t ≡ get_or ts i t
    → (trees (drop i ts) ≡ more t (trees (drop (suc i) ts))) × (cost t ≤ costs (trees ts))
there_at [] i t lt is = absurd (omega (arith, lt))
there_at (u ∷ ts) zero t lt is =
    (ap (λ z. more z (trees ts)) (sym is), (let e : cost t ≡ cost u = ap cost is in omega (arith, e)))
there_at (u ∷ ts) (suc i) t lt is =
    let r : (trees (drop i ts) ≡ more t (trees (drop (suc i) ts))) × (cost t ≤ costs (trees ts)) =
    there_at ts i t (omega (arith, lt)) is in
    (r.0, omega (arith, r.1))

pub there : {A : Type 0} (ts : List (Tree A)) (i : ℕ) (t : Tree A) → i < length ts
    → t ≡ get_or ts i t → There ts i t
there ts i t lt is =
    let r = there_at ts i t lt is in
    let n : suc i ≡ i + 1 = omega arith in
    record { from = r.0 ∙ ap (λ k. more t (trees (drop k ts))) n; next = next_of ts (i + 1); cheap = r.1 }

pub pieces_more : {A : Type 0} (ts : List (Tree A)) (i j : ℕ) (t : Tree A) (before : Bool) (p : Piece)
    (ps : List Piece) → j ≡ i + 1 → There ts i t → IsPiece t before (ltb j (length ts)) p →
    ArePieces (trees (drop j ts)) (ltb 0 j) false (reverse ps)
    → ArePieces (trees (drop i ts)) before false (reverse (ps ++ p ∷ []))
pieces_more ts i j t before p ps next s is are =
    let after : ltb j (length ts) ≡ has_more (trees (drop (i + 1) ts)) =
    ap (λ k. ltb k (length ts)) next ∙ sym s.next in
    let some : ltb 0 (i + 1) ≡ true = grind arith in
    let rest : ArePieces (trees (drop (i + 1) ts)) true false (reverse ps) =
    subst (λ b. ArePieces (trees (drop (i + 1) ts)) b false (reverse ps)) some
    (subst (λ k. ArePieces (trees (drop k ts)) (ltb 0 k) false (reverse ps)) next are) in
    subst (ArePieces (trees (drop i ts)) before false) (sym (reverse-append ps (p ∷ [])))
    (subst (λ z. ArePieces z before false (p ∷ reverse ps)) (sym s.from)
    (subst (λ b. IsPiece t before b p) after is, rest))

-- the pieces come to no more than the tokens cost
pub pieces_few : {A : Type 0} (ts : Trees A) (before after : Bool) (ps : List Piece)
    → ArePieces ts before after ps → all_sizes ps ≤ costs ts
pieces_few none before after [] are = omega arith
pieces_few none before after (p ∷ ps) are = absurd are
pieces_few (more t ts) before after [] are = absurd are
pieces_few (more t ts) before after (p ∷ ps) are = omega (arith, are.0.few, pieces_few ts true after ps are.1)
