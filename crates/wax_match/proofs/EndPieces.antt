-- Pieces of a program after which nothing follows: each way through them ends at the end of a pattern.
use Rattle.std.proofs.Common.{◌≤◌, ◌≡◌, ℕ, zero, suc, ◌+◌, ◌-◌, ◌⊎◌, List, [], ◌∷◌, ◌++◌, length, Some}
use Rattle.std.proofs.Common.{slice_get, refl, sym, ◌∙◌, ap, subst, inl, inr, arith, append_assoc, append-nil}
use Rattle.std.proofs.Common.{length-append, ◌↔◌}
use Rattle.wax_match.proofs.Fragments.{Stands-append, Through, Spells, at_instruction}
use Rattle.wax_match.proofs.{ClosedPieces.{IsInside, closed_after}, Whole.stands_at}
use Rattle.wax_match.specs.{inner.Ends.{AreWritten, IsEnded, Marked, Stands}, inner.Left.Joined}
use Rattle.wax_program.specs.{Closed.IsClosed, declared.instruction.Instruction.Instruction}
use Rattle.wax_program.specs.declared.instruction.Instruction.TheVariants.{End, Fork, Back}
use Rattle.wax_program.specs.Machine.{Accepts, AcceptsIn, mark}
use Rattle.wax_program.proofs.Steps.{after_fork}

pub ends_same : {a : List Instruction} {Q R : ℕ → List ℕ → Type 0} → ((k : ℕ) (s : List ℕ) → Q k s → R k s)
    → ((k : ℕ) (s : List ℕ) → R k s → Q k s)
    → IsEnded a Q → IsEnded a R
ends_same to from f = record {
  sound = λ code at n s st h. (let r = f.sound code at n s st h in (r.0, r.1, r.2, to r.0 r.1 r.3));
  complete = λ code at k x st q. f.complete code at k x st (from k x q);
}

-- the end of a pattern
pub ends_end : (j : ℕ) (t : List Instruction) → IsEnded (End j j ∷ t) (λ k x. (k ≡ j) × (x ≡ []))
ends_end j t = record {
  sound = λ code at n s st h. found code at n s st.0 h;
  complete = λ code at k x st q.
      (1, inr (End j j, st.0, (k, omega (arith, q.0), omega (arith, q.0), ap (λ z. z ++ mark k ∷ []) q.1)));
}
  where
    found : (code : List Instruction) (at n : ℕ) (s : List ℕ) → slice_get code at ≡ Some (End j j)
        → AcceptsIn code n at s → Marked (λ k x. (k ≡ j) × (x ≡ [])) s
    found code at zero s st h = absurd h
    found code at (suc n) s st h =
        let m = at_instruction code at n (End j j) s st h in
        (m.0, [], m.3, (omega (arith, m.1, m.2), refl))

-- a piece, and then the others
pub ends_after : {a t : List Instruction} {P : List ℕ → Type 0} {Q : ℕ → List ℕ → Type 0} → Spells a P
    → IsEnded t Q → IsEnded (a ++ t) (λ k s. Joined P (Q k) s)
ends_after {a} {t} {P} {Q} f g = record {
  sound = λ code at n s st h.
      let w : Stands code at a × Stands code (at + length a) t = Stands-append code at a t st in
      let r : Through P code (at + length a) n s = f.sound code at (at + length a) n s w.0 refl h in
      let q : Marked Q r.back = g.sound code (at + length a) r.left r.back w.1 r.on in (
        q.0,
        r.front ++ q.1,
        r.splits ∙ ap (λ z. r.front ++ z) q.2 ∙ sym (append_assoc r.front q.1 (mark q.0 ∷ [])),
        (r.front, q.1, refl, r.meant, q.3),
      );
  complete = λ code at k x st q.
      let w : Stands code at a × Stands code (at + length a) t = Stands-append code at a t st in
      let r : Accepts code (at + length a) (q.1 ++ mark k ∷ []) =
      g.complete code (at + length a) k q.1 w.1 q.4 in
      let b : Accepts code at (q.0 ++ (q.1 ++ mark k ∷ [])) =
      f.complete code at (at + length a) q.0 (q.1 ++ mark k ∷ []) w.0 refl q.3 r in
      subst (λ z. Accepts code at z) (sym (append_assoc q.0 q.1 (mark k ∷ []))
      ∙ ap (λ z. z ++ mark k ∷ []) (sym q.2)) b;
}

-- a piece with what follows it, beside what follows it
pub ends_fork : (a t : List Instruction) {Q R : ℕ → List ℕ → Type 0} → IsEnded (a ++ t) Q → IsEnded t R
    → IsEnded (Fork (length a) ∷ (a ++ t)) (λ k x. Q k x ⊎ R k x)
ends_fork a t {Q} {R} f g = record {
  sound = λ code at n s st h. found code at n s st h;
  complete = λ code at k x st q. elim q [
    | inl p ↦
        after_fork (length a) code at (x ++ mark k ∷ []) st.0 (inl (f.complete code (at + 1) k x st.1 p))
    | inr p ↦ after_fork (length a) code at (x ++ mark k ∷ []) st.0
        (inr (g.complete code (at + 1 + length a) k x (Stands-append code (at + 1) a t st.1).1 p))
  ];
}
  where
    found : (code : List Instruction) (at n : ℕ) (s : List ℕ) → Stands code at (Fork (length a) ∷ (a ++ t))
        → AcceptsIn code n at s → Marked (λ k x. Q k x ⊎ R k x) s
    found code at zero s st h = absurd h
    found code at (suc n) s st h = elim (at_instruction code at n (Fork (length a)) s st.0 h) [
      | inl m ↦ (let r : Marked Q s = f.sound code (at + 1) n s st.1 m in (r.0, r.1, r.2, inl r.3))
      | inr m ↦ (let r : Marked R s = g.sound code (at + 1 + length a) n s
          (Stands-append code (at + 1) a t st.1).1 m in (r.0, r.1, r.2, inr r.3))
    ]

-- an instruction that leads to itself
pub ends_nothing : (t : List Instruction) → IsEnded (Back 0 ∷ t) (λ k x. ⊥)
ends_nothing t = record {
  sound = λ code at n s st h. absurd (found code at n s st.0 h);
  complete = λ code at k x st q. absurd q;
}
  where
    found : (code : List Instruction) (at n : ℕ) (s : List ℕ) → slice_get code at ≡ Some (Back 0)
        → AcceptsIn code n at s → ⊥
    found code at zero s st h = h
    found code at (suc n) s st h =
        let e : at - 0 ≡ at = omega arith in
        found code at n s st (subst (λ k. AcceptsIn code n k s) e (at_instruction code at n (Back 0) s st h))

-- ---- what was written
written_some : {Q : ℕ → List ℕ → Type 0} (old new : List Instruction) → AreWritten old new Q → 1 ≤ length new
written_some old new w = let some = w.some in
    omega (arith, ap length w.splits, length-append w.piece old, some)

pub written_same : {Q R : ℕ → List ℕ → Type 0} (old new : List Instruction)
    → ((k : ℕ) (s : List ℕ) → Q k s → R k s) → ((k : ℕ) (s : List ℕ) → R k s → Q k s)
    → AreWritten old new Q → AreWritten old new R
written_same old new to from w = record {
  piece = w.piece;
  splits = w.splits;
  some = w.some;
  ends = ends_same to from w.ends;
  closed = w.closed;
}

pub written_none : (old new : List Instruction) → new ≡ Back 0 ∷ old → AreWritten old new (λ k s. ⊥)
written_none old new e = record {
  piece = Back 0 ∷ [];
  splits = e;
  some = omega arith;
  ends = subst (λ z. IsEnded z (λ k s. ⊥)) (sym e) (ends_nothing old);
  closed = λ c. subst IsClosed (sym e) (tt, c);
}

-- a piece, and an end after it
pub written_coded : {P : List ℕ → Type 0} (n : ℕ) (code old new : List Instruction) → Spells code P
    → IsInside code → new ≡ code ++ End n n ∷ old
    → AreWritten old new (λ k s. (k ≡ n) × P s)
written_coded {P} n code old new spells within e = record {
  piece = code ++ End n n ∷ [];
  splits = e ∙ sym (append_assoc code (End n n ∷ []) old);
  some = omega (arith, length-append code (End n n ∷ []));
  ends = subst (λ z. IsEnded z (λ k s. (k ≡ n) × P s)) (sym e)
      (ends_same
      (λ k s q. (q.4.0, subst P (sym (q.2 ∙ ap (λ z. q.0 ++ z) q.4.1 ∙ append-nil q.0)) q.3))
      (λ k s q. (s, [], sym (append-nil s), q.1, (q.0, refl)))
      (ends_after spells (ends_end n old)));
  closed = λ c. subst IsClosed (sym e) (closed_after code (End n n ∷ old) within (omega arith) (tt, c));
}

-- a piece before what was written
pub written_led : {P : List ℕ → Type 0} {R : ℕ → List ℕ → Type 0} (code old mid new : List Instruction)
    → Spells code P → IsInside code → new ≡ code ++ mid
    → AreWritten old mid R → AreWritten old new (λ k s. Joined P (R k) s)
written_led {P} {R} code old mid new spells within e w = record {
  piece = code ++ w.piece;
  splits = e ∙ ap (λ z. code ++ z) w.splits ∙ sym (append_assoc code w.piece old);
  some = (let some = w.some in omega (arith, length-append code w.piece, some));
  ends = subst (λ z. IsEnded z (λ k s. Joined P (R k) s)) (sym e) (ends_after spells w.ends);
  closed = λ c. subst IsClosed (sym e) (closed_after code mid within (written_some old mid w) (w.closed c));
}

-- what was written, beside what was written before it
pub written_beside : {Q R : ℕ → List ℕ → Type 0} (old mid last new : List Instruction)
    → new ≡ Fork (length last - length mid) ∷ last → AreWritten old mid Q → AreWritten mid last R
    → AreWritten old new (λ k s. R k s ⊎ Q k s)
written_beside {Q} {R} old mid last new e w v =
    let n : length last - length mid ≡ length v.piece =
    omega (arith, ap length v.splits, length-append v.piece mid) in
    let is : new ≡ Fork (length v.piece) ∷ (v.piece ++ mid) =
    e ∙ ap (λ z. Fork z ∷ last) n ∙ ap (λ z. Fork (length v.piece) ∷ z) v.splits in
    let some : 1 ≤ length mid = written_some old mid w in
    record {
      piece = Fork (length v.piece) ∷ (v.piece ++ w.piece);
      splits = is ∙ ap (λ z. Fork (length v.piece) ∷ (v.piece ++ z)) w.splits
          ∙ ap (λ z. Fork (length v.piece) ∷ z) (sym (append_assoc v.piece w.piece old));
      some = omega arith;
      ends = subst (λ z. IsEnded z (λ k s. R k s ⊎ Q k s)) (sym is)
          (ends_fork v.piece mid (subst (λ z. IsEnded z R) v.splits v.ends) w.ends);
      closed = λ c. subst IsClosed (sym is)
          (omega (arith, length-append v.piece mid, some), subst IsClosed v.splits (v.closed (w.closed c)));
    }

-- ---- a whole program
-- a text and its mark, taken apart
tail_same : {a b : ℕ} {t u : List ℕ} → a ∷ t ≡ b ∷ u → t ≡ u
tail_same e = cc

head_same : {a b : ℕ} {t u : List ℕ} → a ∷ t ≡ b ∷ u → a ≡ b
head_same e = cc

nil_cons : {b : ℕ} {t : List ℕ} → [] ≡ b ∷ t → ⊥
nil_cons e = cc

not_nil : (x : List ℕ) (b : ℕ) → [] ≡ x ++ b ∷ [] → ⊥
not_nil [] b e = nil_cons e
not_nil (c ∷ x) b e = nil_cons e

last_same : (s x : List ℕ) (a b : ℕ) → s ++ a ∷ [] ≡ x ++ b ∷ [] → (s ≡ x) × (a ≡ b)
last_same [] [] a b e = (refl, head_same e)
last_same [] (c ∷ x) a b e = absurd (not_nil x b (tail_same e))
last_same (c ∷ s) [] a b e = absurd (not_nil s a (tail_same (sym e)))
last_same (c ∷ s) (d ∷ x) a b e =
    let r = last_same s x a b (tail_same e) in
    let h : c ≡ d = head_same e in
    (ap (λ z. c ∷ z) r.0 ∙ ap (λ z. z ∷ x) h, r.1)

module _ {code : List Instruction} {Q : ℕ → List ℕ → Type 0} (f : IsEnded code Q) where
  ends_sound : (k : ℕ) (s : List ℕ) → Accepts code 0 (s ++ mark k ∷ []) → Q k s
  ends_sound k s h =
      let r : Marked Q (s ++ mark k ∷ []) = f.sound code 0 h.0 (s ++ mark k ∷ []) (stands_at [] code) h.1 in
      let e = last_same s r.1 (mark k) (mark r.0) r.2 in
      let number : r.0 ≡ k = omega (arith, e.1) in
      subst (λ z. Q z s) number (subst (Q r.0) (sym e.0) r.3)

  ends_complete : (k : ℕ) (s : List ℕ) → Q k s → Accepts code 0 (s ++ mark k ∷ [])
  ends_complete k s q = f.complete code 0 k s (stands_at [] code) q

  pub ends_accept : (k : ℕ) (s : List ℕ) → Accepts code 0 (s ++ mark k ∷ []) ↔ Q k s
  ends_accept k s = ((λ h. ends_sound k s h), (λ q. ends_complete k s q))
