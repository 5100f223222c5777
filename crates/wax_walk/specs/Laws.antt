-- Proofs of laws that impls cite.
use Rattle.std.specs.Prelude.{◌≡◌, ◌&&◌, List, ℕ, Bool, true, false, cond, Option, Some, None, Result, Ok}
use Rattle.std.specs.Prelude.{Err, ◌⊎◌, ⊤}
use Rattle.std.proofs.Common.{ap, refl, subst, sym, ◌∙◌, inl, inr}
use denote.Ref.{Bor}
use Rattle.wax_filter.specs.declared.filter.separation.Separation.{Separation}
use Rattle.wax_filter.specs.declared.filter.separation.Separation.TheVariants.{Filtrate, Residue}
use Rattle.wax_walk.specs.{declared.entry.TreeEntry.TreeEntry, declared.error.WalkError.WalkError}
use Rattle.wax_walk.specs.{declared.iterator.EntryResidue.EntryResidue, Candidates.{Candidate, of_candidate}}
use Rattle.wax_walk.specs.Course.{Ahead, AheadFiltered, Course, IsFiltered, IsNothing, ahead, asks, stop}
use Rattle.wax_walk.specs.{Course.{unknown, yields}, Forest.{Pending, cancelled}}
use Rattle.wax_walk.specs.Given.{Given, Facts, Mark, ToComeFiltered}
use Rattle.wax_walk.specs.Known.{KnownOutcome, KnownAnswer, KeepsKnown}
use Rattle.wax_walk.specs.Pruned.{IsPrunedBy, keep_mark, opens_by, pruned_pending, pruned_view, selected_view}
use Rattle.wax_walk.specs.Ruled.{AheadRuled, IsMarkBy, ruled_view}
use Rattle.wax_walk.specs.Says.{IsMarkSaid, SaysByRule, ToComeByClosure, closure_view}
use Rattle.wax_walk.specs.View.{WalkView, CancelStep}

filtered_cancelling : (rule : Facts → Mark) (inner new : Pending Given → Type 0) (q : Pending Given)
    → ((p : Pending Given) → inner p → new (cancelled p)) → ToComeFiltered inner rule q
    → ToComeFiltered new rule (cancelled q)
filtered_cancelling rule inner new q a h = (cancelled h.0, a h.0 h.1, ap cancelled h.2)

filtered_telling : (rule : Facts → Mark) (inner : Pending Given → Type 0) (tells : List (List ℕ) → Type 0)
    (q : Pending Given)
    → ((p : Pending Given) → inner p → tells p.listed) → ToComeFiltered inner rule q → tells q.listed
filtered_telling rule inner tells q a h = subst tells (sym (ap (λ (v : Pending Given). v.listed) h.2))
    (a h.0 h.1)

pub ruled_telling : {D : Type 0} (v : WalkView D) (rule : Candidate → Mark) (tells : List (List ℕ) → Type 0)
    → ((p : Pending Given) → v.to_come p → tells p.listed)
    → (q : Pending Given) → ToComeFiltered v.to_come (of_candidate rule) q → tells q.listed
ruled_telling v rule tells a q h = filtered_telling (of_candidate rule) v.to_come tells q a h

-- where nothing comes, a filter leaves nothing
pub filtered_nothing : (allows : Given → Mark → Bool → Type 0) (c d : Course) → IsNothing c
    → IsFiltered allows c d → IsNothing d
filtered_nothing allows unknown d n h = subst IsNothing (sym h) tt
filtered_nothing allows stop d n h =
    elim h [ inl e ↦ subst IsNothing (sym e) tt | inr e ↦ subst IsNothing (sym e) refl ]
filtered_nothing allows (asks q c) d n h = absurd (let e : stop ≡ asks q n.0 = n.1 in (cc))
filtered_nothing allows (yields x b a) d n h = absurd (let e : stop ≡ yields x n.0 n.1 = n.2 in (cc))

filtered_dropping : (allows : Given → Mark → Bool → Type 0) (old new : Ahead → Type 0)
    → ((p : Ahead) → new p → IsNothing p.below × old (ahead unknown p.after)) → (a : Ahead)
    → AheadFiltered new allows a → IsNothing a.below × AheadFiltered old allows (ahead unknown a.after)
filtered_dropping allows old new f a h =
    let d = f h.0 h.1 in
    (filtered_nothing allows h.0.below a.below d.0 h.2, (ahead unknown h.0.after, d.1, refl, h.3))

ruled_dropping : (old new : Ahead → Type 0)
    → ((p : Ahead) → new p → IsNothing p.below × old (ahead unknown p.after))
    → (before after : Candidate → Mark) → after ≡ before → (b c : Bool) → c ≡ b → (a : Ahead)
    → AheadRuled new after c a → IsNothing a.below × AheadRuled old before b (ahead unknown a.after)
ruled_dropping old new f before after e true true i a h = (h.0, (tt, h.1))
ruled_dropping old new f before after e false false i a h = filtered_dropping
    (IsMarkBy (of_candidate before)) old new f a
    (subst (λ r. AheadFiltered new (IsMarkBy (of_candidate r)) a) e h)
ruled_dropping old new f before after e true false i a h = absurd (let j : false ≡ true = i in (cc))
ruled_dropping old new f before after e false true i a h = absurd (let j : true ≡ false = i in (cc))

ended_either : (b c : Bool) (before after : Type 0) → c ≡ b → (before → after) → (b ≡ true) ⊎ before
    → (c ≡ true) ⊎ after
ended_either b c before after e f h = elim h [ inl a ↦ inl (e ∙ a) | inr i ↦ inr (f i) ]

none_still : (b : Bool) (n : ℕ) → n ≡ 0 → cond b 0 n ≡ 0
none_still true n e = refl
none_still false n e = e

pub ruled_cancelling : {D P : Type 0} (v w : WalkView D) (rules : P → Candidate → Mark) (p q : P) (b c : Bool)
    → CancelStep v w → q ≡ p → c ≡ b → CancelStep (ruled_view v (rules p) b) (ruled_view w (rules q) c)
ruled_cancelling v w rules p q b c h e f = record {
  leaves_out = λ o i. (
    f ∙ i.0,
    subst (λ r. ToComeFiltered w.to_come (of_candidate (rules r)) (cancelled o)) (sym e)
        (filtered_cancelling (of_candidate (rules p)) v.to_come w.to_come o h.leaves_out i.1),
  );
  drops = ruled_dropping v.may_come w.may_come h.drops (rules p) (rules q) (ap rules e) b c f;
  directory = h.directory;
  listings_left = h.listings_left;
  names_left = h.names_left;
  to_begin = ap (λ n. cond c 0 n) h.to_begin ∙ ap (λ i. cond i 0 v.to_begin) f;
  listings_open = ap (λ n. cond c 0 n) h.listings_open ∙ ap (λ i. cond i 0 v.listings_open) f;
  to_open = ap (λ i. cond i 0 w.to_open) f ∙ none_still b w.to_open h.to_open;
  may_open = h.may_open;
  yields_from = h.yields_from;
  may_fail = h.may_fail;
  none_below = λ path depth i. h.none_below path depth i.1;
  ends = λ i. ended_either b c v.has_ended w.has_ended f h.ends i;
  idles = λ i. ended_either b c v.is_idle w.is_idle f h.idles i;
}

-- ---- a walk that opens only some folders

pruned_telling : (opens : Facts → Bool) (inner : Pending Given → Type 0) (tells : List (List ℕ) → Type 0)
    → ((p : Pending Given) → inner p → tells p.listed) → (q : Pending Given)
    → (p : Pending Given) × inner p × (q ≡ pruned_pending opens p) → tells q.listed
pruned_telling opens inner tells a q h =
    subst tells (sym (ap (λ (v : Pending Given). v.listed) h.2)) (a h.0 h.1)

pub selected_telling : {D : Type 0} (v : WalkView D) (keeps goes_on : Candidate → Bool) (b : Bool)
    (tells : List (List ℕ) → Type 0) → ((p : Pending Given) → v.to_come p → tells p.listed)
    → (q : Pending Given) → (selected_view v keeps goes_on b).to_come q → tells q.listed
selected_telling v keeps goes_on b tells a q h = pruned_telling (opens_by goes_on)
    (ruled_view v (keep_mark keeps) b).to_come tells
    (λ p i. ruled_telling v (keep_mark keeps) tells a p i.1) q h

pub pruned_cancelling : {D : Type 0} (v w : WalkView D) (opens : Facts → Bool) → CancelStep v w
    → CancelStep (pruned_view v opens) (pruned_view w opens)
pruned_cancelling v w opens h = record {
  leaves_out = λ o i. (cancelled i.0, h.leaves_out i.0 i.1, ap cancelled i.2);
  drops = filtered_dropping (IsPrunedBy opens) v.may_come w.may_come h.drops;
  directory = h.directory;
  listings_left = h.listings_left;
  names_left = h.names_left;
  to_begin = h.to_begin;
  listings_open = h.listings_open;
  to_open = h.to_open;
  may_open = ap (λ (o : Facts → Bool). λ (f : Facts). o f && opens f) h.may_open;
  yields_from = h.yields_from;
  may_fail = h.may_fail;
  none_below = h.none_below;
  ends = h.ends;
  idles = h.idles;
}

pub selected_cancelling : {D S : Type 0} (v w : WalkView D) (keeps goes_on : S → Candidate → Bool) (s t : S)
    (b c : Bool) → CancelStep v w → t ≡ s → c ≡ b
    → CancelStep (selected_view v (keeps s) (goes_on s) b) (selected_view w (keeps t) (goes_on t) c)
selected_cancelling v w keeps goes_on s t b c h e i =
    subst (λ r. CancelStep (selected_view v (keeps s) (goes_on s) b)
    (selected_view w (keeps t) (goes_on r) c))
    (sym e) (pruned_cancelling (ruled_view v (keep_mark (keeps s)) b) (ruled_view w (keep_mark (keeps t)) c)
    (opens_by (goes_on s)) (ruled_cancelling v w (λ r. keep_mark (keeps r)) s t b c h e i))

module _ {F : Type 0} (step : F → Bor TreeEntry → Option EntryResidue → F → Type 0) where
  pub closure_telling : {D : Type 0} (v : WalkView D) (f : F) (tells : List (List ℕ) → Type 0)
      → ((p : Pending Given) → v.to_come p → tells p.listed)
      → (q : Pending Given) → ToComeByClosure step v.to_come f q → tells q.listed
  closure_telling v f tells a q h = filtered_telling h.0 v.to_come tells q a h.2

  pub closure_cancelling : {D : Type 0} (v w : WalkView D) (f g : F) → CancelStep v w → g ≡ f
      → CancelStep (closure_view step v f) (closure_view step w g)
  closure_cancelling v w f g h e = record {
    leaves_out = λ o i. (
      i.0,
      subst (λ s. SaysByRule step i.0 s) (sym e) i.1,
      filtered_cancelling i.0 v.to_come
          w.to_come o h.leaves_out i.2,
    );
    drops = λ a i. filtered_dropping (IsMarkSaid step f) v.may_come w.may_come h.drops a
        (subst (λ s. AheadFiltered w.may_come (IsMarkSaid step s) a) e i);
    directory = h.directory;
    listings_left = h.listings_left;
    names_left = h.names_left;
    to_begin = h.to_begin;
    listings_open = h.listings_open;
    to_open = h.to_open;
    may_open = h.may_open;
    yields_from = h.yields_from;
    may_fail = h.may_fail;
    none_below = h.none_below;
    ends = h.ends;
    idles = h.idles;
  }

-- ---- if nothing is known

nothing_known_outcome : {T : Type 0} (x : Result T WalkError) → KnownOutcome (λ e. ⊤) x
nothing_known_outcome (Ok e) = tt
nothing_known_outcome (Err e) = tt

nothing_known_answer : {S T R : Type 0} (r : Option (Separation S (Result T WalkError) R))
    → KnownAnswer (λ e. ⊤) r
nothing_known_answer None = tt
nothing_known_answer (Some (Filtrate x)) = nothing_known_outcome x.inner
nothing_known_answer (Some (Residue x)) = tt

pub nothing_known : {S T R : Type 0} (r : Option (Separation S (Result T WalkError) R))
    → KeepsKnown (λ e. ⊤) r (λ e. ⊤)
nothing_known r = record { answer = nothing_known_answer r; stays = λ e k. tt }
