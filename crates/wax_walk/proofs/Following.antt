-- How a filter follows the course of the walk inside it.
use Rattle.std.proofs.Common.{◌≡◌, ◌∙◌, Bool, true, false, List, refl, sym, ap, subst, inl, inr}
use Rattle.std.specs.Prelude.{Some, None}
use Rattle.wax_walk.specs.Course.{Ahead, AheadFiltered, DirectoryCall, Course, CutsShort, ComesBelow}
use Rattle.wax_walk.specs.Course.{IsFiltered, IsNothing, IsStartOf, ahead, all_ahead, asking, asks, continued}
use Rattle.wax_walk.specs.Course.{yields, stop, unknown}
use Rattle.wax_walk.specs.{Given.{Given, Mark, entry, fault, no_memory, with_mark}, Laws.filtered_nothing}
use Rattle.wax_walk.specs.{Candidates.{Candidate, of_candidate}, Ruled.{IsMarkBy, ruled_view}}
use Rattle.wax_walk.specs.View.{WalkView, CancelStep, Follows, IsSeenAs, MayTake, went_on, ended_so, was_cut}
use Rattle.wax_walk.proofs.Courses.{begins_itself, filtered_asking, filtered_begun, filtered_parts}
use Rattle.wax_walk.proofs.Courses.{filtered_unknown, filtered_widened}

-- an error that cuts a course short isn't marked
cuts_marked : (calls : List DirectoryCall) (x : Given) (m : Mark) → CutsShort calls x
    → CutsShort calls (with_mark x m)
cuts_marked calls (entry k f) m s = absurd s
cuts_marked calls (fault kind path depth) m s = s
cuts_marked calls no_memory m s = s

below_uncut : (b : Bool) (P : Type 0) (c : Course) → false ≡ b → P → ComesBelow b P c
below_uncut true P c e h = absurd (let i : false ≡ true = e in (cc))
below_uncut false P c e h = h

below_cut : (b : Bool) (P : Type 0) (c : Course) → true ≡ b → IsNothing c → ComesBelow b P c
below_cut true P c e h = h
below_cut false P c e h = absurd (let i : true ≡ false = e in (cc))

module _ {D : Type 0} (v w outer new : WalkView D) (allows later : Given → Mark → Bool → Type 0)
    (outside : (a : Ahead) → AheadFiltered v.may_come allows a → outer.may_come a)
    (calls : List DirectoryCall) where
  -- a course that the walk inside may take, as the filter leaves it
  take_filtered : (c d : Course) → MayTake v c → IsFiltered allows c d → MayTake outer d
  take_filtered c d t h =
      let p =
      filtered_parts allows t.0.below t.0.after d (subst (λ z. IsFiltered allows z d) (sym t.2) h) in (
        ahead p.below p.after,
        outside (ahead p.below p.after) (t.0, t.1, p.below_filtered, p.after_filtered),
        p.whole,
      )

  pub begins_filtered : MayTake v (asking calls unknown) → MayTake outer (asking calls unknown)
  begins_filtered t = take_filtered _ _ t (filtered_asking allows calls unknown unknown refl)

  pub ends_filtered : Follows v calls None w → Follows outer calls None new
  ends_filtered (went_on x e f) = absurd (let i : None ≡ Some x = e in (cc))
  ends_filtered (ended_so e t) =
      ended_so refl (take_filtered _ _ t (filtered_asking allows calls stop stop (inr refl)))
  ends_filtered (was_cut x e s h i) = absurd (let j : None ≡ Some x = e in (cc))

  module _ (x y : Given) (m : Mark) (cut : Bool) (marked : y ≡ with_mark x m) (ok : allows x m cut)
      (narrow : (z : Given) (n : Mark) (c : Bool) → later z n c → allows z n c) where
    -- a course of which the item comes next, as the filter leaves it
    next_filtered : (p a : Ahead) (c : Course) → MayTake v (asking calls (yields x p.below p.after))
        → ComesBelow cut (IsFiltered allows p.below a.below) a.below
        → IsFiltered later p.after a.after → IsStartOf c (yields y a.below a.after)
        → MayTake outer (asking calls c)
    next_filtered p a c t below after b =
        let marks : yields y a.below a.after ≡ yields (with_mark x m) a.below a.after =
        ap (λ z. yields z a.below a.after) marked in
        let f : IsFiltered allows (yields x p.below p.after) (yields y a.below a.after) = inr (
          m,
          cut,
          ok,
          a.below,
          a.after,
          marks,
          below,
          filtered_widened later allows narrow p.after a.after after,
        ) in
        take_filtered (asking calls (yields x p.below p.after)) (asking calls c) t
        (filtered_asking allows calls (yields x p.below p.after) c
        (filtered_begun allows (yields x p.below p.after) (yields y a.below a.after) c f b))

    pub passes_filtered : false ≡ cut
        → ((a : Ahead) → new.may_come a → AheadFiltered w.may_come later a) → (w.has_ended → new.has_ended)
        → (w.is_idle → new.is_idle) → Follows v calls (Some x) w → Follows outer calls (Some y) new
    passes_filtered uncut inside ended idle (went_on z e f) =
        let same : z ≡ x = cc in
        went_on y refl (λ a c n b.
        let q = inside a n in
        let t = subst (λ k. MayTake v (asking calls (yields k q.0.below q.0.after))) same
        (f q.0 (yields z q.0.below q.0.after) q.1 (begins_itself (yields z q.0.below q.0.after))) in
        next_filtered q.0 a c t
        (below_uncut cut _ a.below uncut
        (filtered_widened later allows narrow q.0.below a.below q.2)) q.3 b)
    passes_filtered uncut inside ended idle (ended_so e t) = absurd (let i : Some x ≡ None = e in (cc))
    passes_filtered uncut inside ended idle (was_cut z e s h i) =
        let same : z ≡ x = cc in
        let k : CutsShort calls (with_mark x m) = cuts_marked calls x m (subst (CutsShort calls) same s) in
        was_cut y refl (subst (CutsShort calls) (sym marked) k) (ended h) (idle i)

    pub cuts_filtered : true ≡ cut → (u : WalkView D) → CancelStep w u
        → ((a : Ahead) → new.may_come a → AheadFiltered u.may_come later a) → (w.has_ended → new.has_ended)
        → (w.is_idle → new.is_idle) → Follows v calls (Some x) w → Follows outer calls (Some y) new
    cuts_filtered is u k inside ended idle (went_on z e f) =
        let same : z ≡ x = cc in
        went_on y refl (λ a c n b.
        let q = inside a n in
        let d = k.drops q.0 q.1 in
        let t = subst (λ k. MayTake v (asking calls (yields k unknown q.0.after))) same
        (f (ahead unknown q.0.after) (yields z unknown q.0.after) d.1
        (begins_itself (yields z unknown q.0.after))) in
        next_filtered (ahead unknown q.0.after) a c t
        (below_cut cut _ a.below is (filtered_nothing later q.0.below a.below d.0 q.2)) q.3 b)
    cuts_filtered is u k inside ended idle (ended_so e t) = absurd (let i : Some x ≡ None = e in (cc))
    cuts_filtered is u k inside ended idle (was_cut z e s h i) =
        let same : z ≡ x = cc in
        let k : CutsShort calls (with_mark x m) = cuts_marked calls x m (subst (CutsShort calls) same s) in
        was_cut y refl (subst (CutsShort calls) (sym marked) k) (ended h) (idle i)

-- ---- a walk after a rule

filtered_both : (allows : Given → Mark → Bool → Type 0) (b a d e : Course) → IsFiltered allows b d
    → IsFiltered allows a e
    → IsFiltered allows (continued b a) (continued d e)
filtered_both allows unknown a d e h k = ap (λ z. continued z e) h
filtered_both allows stop a d e h k = elim h [
  | inl i ↦ subst (λ z. IsFiltered allows a (continued z e)) (sym i) (filtered_unknown allows a)
  | inr i ↦ subst (λ z. IsFiltered allows a (continued z e)) (sym i) k
]
filtered_both allows (asks q b) a d e h k = elim h [
  | inl i ↦ inl (ap (λ z. continued z e) i)
  | inr i ↦ inr (continued i.0 e, ap (λ z. continued z e) i.1, filtered_both allows b a i.0 e i.2 k)
]
filtered_both allows (yields x c b) a d e h k = elim h [
  | inl i ↦ inl (ap (λ z. continued z e) i)
  | inr i ↦ inr (
    i.0,
    i.1,
    i.2,
    i.3,
    continued i.4 e,
    ap (λ z. continued z e) i.5,
    i.6,
    filtered_both allows b a i.4 e i.7 k,
  )
]

-- of a walk that may take only the error that allocation failed, a rule leaves only that
pub lacks_filtered : (allows : Given → Mark → Bool → Type 0) (c d : Course)
    → IsStartOf c (yields no_memory stop stop)
    → IsFiltered allows c d → IsStartOf d (yields no_memory stop stop)
lacks_filtered allows unknown d b h = subst (λ z. IsStartOf z (yields no_memory stop stop)) (sym h) tt
lacks_filtered allows stop d b h = absurd (let i : yields no_memory stop stop ≡ stop = b in (cc))
lacks_filtered allows (asks q c) d b h =
    absurd (let i : yields no_memory stop stop ≡ asks q b.0 = b.1 in (cc))
lacks_filtered allows (yields x c a) d b h =
    let i : yields no_memory stop stop ≡ yields x b.0 b.1 = b.2 in
    let same : x ≡ no_memory = cc in
    let under : b.0 ≡ stop = cc in
    let rest : b.1 ≡ stop = cc in
    elim h [
      | inl e ↦ subst (λ z. IsStartOf z (yields no_memory stop stop)) (sym e) tt
      | inr k ↦
          let below = nothing_below k.1 k.3 k.6 (subst (IsStartOf c) under b.3) in
          let after = filtered_nothing allows a k.4 (subst (IsStartOf a) rest b.4) k.7 in
          let is : d ≡ yields no_memory k.3 k.4 = k.5 ∙ ap (λ z. yields (with_mark z k.0) k.3 k.4) same in
          subst (λ z. IsStartOf z (yields no_memory stop stop)) (sym is) (stop, stop, refl, below, after)
    ] where
      nothing_below : (cut : Bool) (e : Course) → ComesBelow cut (IsFiltered allows c e) e
          → IsNothing c → IsNothing e
      nothing_below true e h n = h
      nothing_below false e h n = filtered_nothing allows c e n h

-- what a filtered walk may take is filtered of what the walk may take
pub take_filtered_by : {D : Type 0} (inner : WalkView D) (said allows : Given → Mark → Bool → Type 0)
    → ((x : Given) (m : Mark) (cut : Bool) → said x m cut → allows x m cut) → (e : Course) (a : Ahead)
    → AheadFiltered inner.may_come said a → all_ahead a ≡ e
    → (c : Course) × MayTake inner c × IsFiltered allows c e
take_filtered_by inner said allows wider e a f same = (
  all_ahead f.0,
  (f.0, f.1, refl),
  filtered_widened said allows wider (all_ahead f.0) e (subst (IsFiltered said (all_ahead f.0)) same
      (filtered_both said f.0.below f.0.after a.below a.after f.2 f.3)),
)

pub take_ruled : {D : Type 0} (inner outer : WalkView D) (rule : Candidate → Mark)
    → IsSeenAs (ruled_view inner rule false) outer → (e : Course) → MayTake outer e
    → (c : Course) × MayTake inner c × IsFiltered (IsMarkBy (of_candidate rule)) c e
take_ruled inner outer rule seen e t =
    let allows = IsMarkBy (of_candidate rule) in
    take_filtered_by inner allows allows (λ x m c s. s) e t.0 (seen.may_come t.0 t.1) t.2

pub lacks_ruled : {D : Type 0} (inner outer : WalkView D) (rule : Candidate → Mark)
    → IsSeenAs (ruled_view inner rule false) outer
    → ((c : Course) → MayTake inner c → IsStartOf c (yields no_memory stop stop))
    → (c : Course) → MayTake outer c → IsStartOf c (yields no_memory stop stop)
lacks_ruled inner outer rule seen lacks c t =
    let p = take_ruled inner outer rule seen c t in
    lacks_filtered (IsMarkBy (of_candidate rule)) p.0 c (lacks p.0 p.1) p.2
