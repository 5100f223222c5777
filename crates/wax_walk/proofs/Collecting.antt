-- A loop that takes all that a walk yields.
use Rattle.std.proofs.Common.{◌≡◌, Bool, ℕ, ◌+◌, ◌<◌, ◌≤◌, true, false, cond, length, length-append, List, []}
use Rattle.std.proofs.Common.{◌∷◌, ◌++◌, refl, sym, ap, subst, ◌∙◌, append_assoc, inl, inr, arith}
use Rattle.std.proofs.lemmas.List.{map-append}
use Rattle.std.proofs.lemmas.List.Elements.{filter-append, Contains-append_left, Contains-push_cases}
use Rattle.std.proofs.lemmas.List.Elements.{Contains-push}
use Rattle.std.specs.{Prelude.{◌⊎◌, Option, Some, None, Result, Ok, Err, IfOk, filter, map}, List.Contains}
use Rattle.wax_directory.specs.{Counting.{grown, plus}, Law.Law, declared.tally.Tally.Tally, History.Answer}
use Rattle.wax_directory.proofs.Counts.{plus_assoc, plus_none}
use Rattle.wax_filter.specs.declared.filter.separation.Separation.{Separation}
use Rattle.wax_filter.specs.declared.filter.separation.Separation.TheVariants.{Filtrate, Residue}
use Rattle.wax_filter.specs.declared.filter.tree_residue.TreeResidue.{TreeResidue}
use Rattle.wax_filter.specs.declared.filter.tree_residue.TreeResidue.TheVariants.{Node, Tree}
use Rattle.wax_walk.specs.declared.error.WalkError.{WalkError}
use Rattle.wax_walk.specs.declared.error.WalkError.TheVariants.{Fault, Memory}
use Rattle.wax_walk.specs.declared.error.FaultKind.TheVariants.{NotAFolder, Budget}
use Rattle.wax_walk.specs.Collected.{IsCutShort, Yielded, whole, Took, all_fault_counts, NoneLast}
use Rattle.wax_walk.specs.Collected.{count_to_open, AreOfFolders, HasFolder, SpendsWithin, all_items_lost}
use Rattle.wax_walk.specs.{Collected.NoMemoryError, Entries.{given_of, given_outcome, given_residue}}
use Rattle.wax_walk.specs.Forest.{Forest, nothing, item, lists, followed_by, Pending, pending, all_pending}
use Rattle.wax_walk.specs.Forest.{FirstIs, IsListed, listed_next, preorder, listings}
use Rattle.wax_walk.specs.{Given.{Given, Facts, fault, no_memory, is_kept}, Known.kept_of}
use Rattle.wax_walk.specs.View.{WalkView, FeedStep, GivesOrStops, lacks_memory, over_budget, gives}
use Rattle.wax_walk.specs.View.{CountsFaults, fault_counts, IsLast, IsMisplaced, Takes, is_to_open, IsErrorAt}
use Rattle.wax_walk.specs.View.{IsFolderAt, MayFail, Places, items_lost, opens_one, IsMemoryError}
use Rattle.wax_walk.specs.{Course.{DirectoryCall, answers}, Opened.items_listed}
use Rattle.wax_walk.proofs.Taking.{TakingCourse, answered_more, course_end, course_more, course_none}
use Rattle.wax_walk.proofs.Taking.{listed_more}
use Rattle.wax_walk.proofs.Accounting.{takes_within, takes_exactly, counts_faults_then, counts_then_none}
use Rattle.wax_walk.proofs.Accounting.{counts_nothing, grown_then}
use Rattle.wax_walk.specs.Collected as all

append-nil : {A : Type 0} (xs : List A) → xs ++ [] ≡ xs
append-nil [] = refl
append-nil (x ∷ xs) = ap (λ ys. x ∷ ys) (append-nil xs)

pub preorder_append : {A : Type 0} (f g : Forest A) → preorder (followed_by f g) ≡ preorder f ++ preorder g
preorder_append nothing g = refl
preorder_append (item x below after) g =
    ap (λ ys. x ∷ ys) (ap (λ ys. preorder below ++ ys) (preorder_append after g) ∙ sym
    (append_assoc (preorder below) (preorder after) (preorder g)))
preorder_append (lists path after) g = preorder_append after g

pub listings_append : {A : Type 0} (f g : Forest A) → listings (followed_by f g) ≡ listings f ++ listings g
listings_append nothing g = refl
listings_append (item x below after) g = ap (λ ys. listings below ++ ys) (listings_append after g) ∙ sym
    (append_assoc (listings below) (listings after) (listings g))
listings_append (lists path after) g = ap (λ ys. path ∷ ys) (listings_append after g)

-- what an answer says of the lists of what is to come
first_said : {A : Type 0} (then : Pending A → Type 0) (f : Forest A) (listed : List (List ℕ)) (items : ℕ)
    (x : A) → FirstIs then f listed items (Some x)
    → (q : Pending A) × then q × (x ∷ preorder (all_pending q) ≡ preorder f) ×
    (q.listed ++ listings (all_pending q) ≡ listed ++ listings f) × (q.items ≡ items)
first_said then nothing listed items x h = cc
first_said then (item y below after) listed items x h =
    let e : x ≡ y = cc in (
      pending below after listed items,
      h.1,
      ap (λ v. v ∷ preorder (followed_by below after)) e ∙ ap (λ ys. y ∷ ys) (preorder_append below after),
      ap (λ ys. listed ++ ys) (listings_append below after),
      refl,
    )
first_said then (lists path after) listed items x h =
    let r = first_said then after (listed ++ path ∷ []) items x h in
    (r.0, r.1, r.2, r.3 ∙ append_assoc listed (path ∷ []) (listings after), r.4)

first_none : {A : Type 0} (then : Pending A → Type 0) (f : Forest A) (listed : List (List ℕ)) (items : ℕ)
    → FirstIs then f listed items None
    → (preorder f ≡ []) × then (pending nothing nothing (listed ++ listings f) items)
first_none then nothing listed items h =
    (refl, subst (λ ps. then (pending nothing nothing ps items)) (sym (append-nil listed)) h.1)
first_none then (item y below after) listed items h = cc
first_none then (lists path after) listed items h =
    let r = first_none then after (listed ++ path ∷ []) items h in (
      r.0,
      subst (λ ps. then (pending nothing nothing ps items))
          (append_assoc listed (path ∷ []) (listings after)) r.1,
    )

listed_first : (f : Forest Given) → (others : List (List ℕ)) × (listings f ≡ listed_next f ++ others)
listed_first nothing = ([], refl)
listed_first (item x below after) = (listings (item x below after), refl)
listed_first (lists path after) =
    let rest = listed_first after in (rest.0, ap (λ v. path ∷ v) rest.1)

-- what is listed before the next item is listed in the end
listed_within : (p : Pending Given) (path : List ℕ) → IsListed p path
    → Contains (p.listed ++ listings (all_pending p)) path
listed_within p path h =
    let rest = listed_first (all_pending p) in
    let same = ap (λ v. p.listed ++ v) rest.1 ∙ sym
    (append_assoc p.listed (listed_next (all_pending p)) rest.0) in
    subst (λ v. Contains v path) (sym same)
    (Contains-append_left (p.listed ++ listed_next (all_pending p)) rest.0 path h)

-- ---- what was given so far

pub data GaveSoFar {D : Type 0} (allowed : ℕ) (now : WalkView D) (p : Pending Given) (xs : List Given) : Type
    0 where
  goes_on : (q : Pending Given) → now.to_come q → xs ++ preorder (all_pending q) ≡ preorder (all_pending p)
      → q.listed ++ listings (all_pending q) ≡ p.listed ++ listings (all_pending p)
      → ((now.has_ended → ⊥) → q.items + allowed ≤ p.items + now.listings_left) → GaveSoFar allowed now p xs
  lacked_memory : now.has_ended → IsCutShort (preorder (all_pending p)) no_memory xs
      → GaveSoFar allowed now p xs
  was_over_budget : now.has_ended → (path : List ℕ) (depth : ℕ) → allowed ≤ p.items
      → Contains (p.listed ++ listings (all_pending p)) path
      → IsCutShort (preorder (all_pending p)) (fault Budget path depth) xs → GaveSoFar allowed now p xs

module _ {D : Type 0} (allowed : ℕ) (mid new : WalkView D) (p : Pending Given) (xs : List Given) where
  abbrev cut_after : (q : Pending Given) (x z : Given) → xs ++ preorder (all_pending q) ≡ preorder
      (all_pending p) → Some x ≡ Some z → IsCutShort (preorder (all_pending p)) z (xs ++ x ∷ [])
  cut_after q x z e i = let v : x ≡ z = cc in (xs, preorder (all_pending q), ap (λ u. xs ++ u ∷ []) v, e)

  more_given : (q : Pending Given) (x : Given) → xs ++ preorder (all_pending q) ≡ preorder (all_pending p)
      → q.listed ++ listings (all_pending q) ≡ p.listed ++ listings (all_pending p)
      → q.items + allowed ≤ p.items + mid.listings_left
      → (IsLast (Some x) → new.has_ended) → GivesOrStops mid q (Some x) new
      → GaveSoFar allowed new p (xs ++ x ∷ [])
  more_given q x e k n f (lacks_memory i) = lacked_memory (f (subst IsLast (sym i) tt)) (cut_after q x _ e i)
  more_given q x e k n f (over_budget path depth i few listed) =
      was_over_budget (f (subst IsLast (sym i) tt)) path depth (omega (arith, n, few))
      (subst (λ ps. Contains ps path) k (listed_within q path listed)) (cut_after q x _ e i)
  more_given q x e k n f (gives items few first) =
      let r = first_said new.to_come (all_pending q) q.listed items x first in
      goes_on r.0 r.1 (append_assoc xs (x ∷ []) (preorder (all_pending r.0)) ∙ (ap (λ ys. xs ++ ys) r.2 ∙ e))
      (r.3 ∙ k) (λ m. omega (arith, n, few (λ i. m (f i)), r.4))

  -- one more item
  gave_more : (x : Given) → (mid.has_ended → ⊥)
      → ((q : Pending Given) → mid.to_come q → GivesOrStops mid q (Some x) new)
      → (IsLast (Some x) → new.has_ended) → GaveSoFar allowed mid p xs
      → GaveSoFar allowed new p (xs ++ x ∷ [])
  gave_more x n a f (goes_on q c e k few) = more_given q x e k (few n) f (a q c)
  gave_more x n a f (lacked_memory e c) = absurd (n e)
  gave_more x n a f (was_over_budget e path depth few listed c) = absurd (n e)

  end_given : (tells : List (List ℕ) → Type 0) (q : Pending Given) → xs ++ preorder (all_pending q) ≡ preorder
      (all_pending p) → q.listed ++ listings (all_pending q) ≡ p.listed ++ listings (all_pending p)
      → ((r : Pending Given) → new.to_come r → tells r.listed) → GivesOrStops mid q None new
      → Yielded tells allowed p xs
  end_given tells q e k told (lacks_memory i) = cc
  end_given tells q e k told (over_budget path depth i few listed) = cc
  end_given tells q e k told (gives items few first) =
      let r = first_none new.to_come (all_pending q) q.listed items first in
      whole (sym (append-nil xs) ∙ (ap (λ ys. xs ++ ys) (sym r.0) ∙ e)) (subst tells k (told _ r.1))

  -- the end
  gave_all : (tells : List (List ℕ) → Type 0)
      → ((q : Pending Given) → mid.to_come q → GivesOrStops mid q None new)
      → ((r : Pending Given) → new.to_come r → tells r.listed) → GaveSoFar allowed mid p xs
      → Yielded tells allowed p xs
  gave_all tells a told (goes_on q c e k few) = end_given tells q e k told (a q c)
  gave_all tells a told (lacked_memory e c) = all.lacks_memory c
  gave_all tells a told (was_over_budget e path depth few listed c) =
      all.over_budget path depth few listed c

-- ---- a loop over a walk

contains_none : {A : Type 0} (x : A) → Contains [] x → ⊥
contains_none x c = omega (arith, c.1)

faults_more : (xs : List Given) (x : Given) → all_fault_counts (xs ++ x ∷ []) ≡ plus (all_fault_counts xs)
    (fault_counts (Some x))
faults_more [] x = plus_none (fault_counts (Some x))
faults_more (y ∷ xs) x = ap (plus (fault_counts (Some y))) (faults_more xs x) ∙ plus_assoc
    (fault_counts (Some y)) (all_fault_counts xs) (fault_counts (Some x))

lost_more : (xs : List Given) (x : Given) → all_items_lost (xs ++ x ∷ [])
    ≡ all_items_lost xs + items_lost (Some x)
lost_more [] x = omega arith
lost_more (y ∷ xs) x = omega (arith, lost_more xs x)

memory_parts : (xs : List Given) (x : Given) → NoMemoryError (xs ++ x ∷ [])
    → NoMemoryError xs × ¬ (IsMemoryError (Some x))
memory_parts [] x h = (tt, h.0)
memory_parts (y ∷ xs) x h = let p = memory_parts xs x h.1 in ((h.0, p.0), p.1)

-- ---- the last item

none_split : {A : Type 0} (before after : List A) (x : A) → [] ≡ before ++ x ∷ after → ⊥
none_split [] after x e = cc
none_split (b ∷ before) after x e = cc

-- the items with one more at the end, split at an item: the last one is that item, or comes after it
snoc_split : {A : Type 0} (xs : List A) (x : A) (before after : List A) (y : A)
    → xs ++ x ∷ [] ≡ before ++ y ∷ after
    → ((after ≡ []) × (x ≡ y) × (xs ≡ before)) ⊎ ((rest : List A) × (xs ≡ before ++ y ∷ rest))
snoc_split [] x [] after y e = let t : after ≡ [] = cc in let h : x ≡ y = cc in inl (t, h, refl)
snoc_split [] x (b ∷ before) after y e = let t : [] ≡ before ++ y ∷ after = cc in
    absurd (none_split before after y t)
snoc_split (a ∷ xs) x [] after y e = let h : a ≡ y = cc in inr (xs, ap (λ v. v ∷ xs) h)
snoc_split (a ∷ xs) x (b ∷ before) after y e =
    let t : xs ++ x ∷ [] ≡ before ++ y ∷ after = cc in
    let h : a ≡ b = cc in
    elim (snoc_split xs x before after y t) [
      | inl i ↦ inl (i.0, i.1, λ k. h k ∷ i.2 k)
      | inr i ↦ inr (i.0, λ k. h k ∷ i.1 k)
    ]

-- an item after which a walk has ended is the last of these, and the walk has ended then
abbrev pub EndedThere : {D : Type 0} → WalkView D → List Given → Type 0
EndedThere now xs = (before after : List Given) (x : Given) → xs ≡ before ++ x ∷ after → IsLast (Some x)
    → (after ≡ []) × now.has_ended

ended_more : {D : Type 0} (mid new : WalkView D) (xs : List Given) (x : Given) → (mid.has_ended → ⊥)
    → (IsLast (Some x) → new.has_ended) → EndedThere mid xs → EndedThere new (xs ++ x ∷ [])
ended_more mid new xs x running ends ended before after y e last =
    elim (snoc_split xs x before after y e) [
      | inl i ↦ (i.0, ends (subst (λ v. IsLast (Some v)) (sym i.1) last))
      | inr i ↦ absurd (running (ended before i.0 y i.1 last).1)
    ]

-- ---- what was opened

none_last_parts : (xs : List Given) (x : Given) → NoneLast (xs ++ x ∷ []) → NoneLast xs × ¬ (IsLast (Some x))
none_last_parts [] x h = (tt, h.0)
none_last_parts (y ∷ xs) x h = let p = none_last_parts xs x h.1 in ((h.0, p.0), p.1)

opened_more : (opens : Facts → Bool) (xs : List Given) (x : Given)
    → count_to_open opens (xs ++ x ∷ []) ≡ count_to_open opens xs + cond (is_to_open opens x) 1 0
opened_more opens [] x = omega arith
opened_more opens (y ∷ xs) x = omega (arith, opened_more opens xs x)

-- ---- where errors come

-- errors may come only of folders that were yielded, or of one of the paths `first`
abbrev pub MayFailAt : {D : Type 0} → (List ℕ → ℕ → Type 0) → (Facts → Bool) → List Given
    → WalkView D → Type 0
MayFailAt first opens xs now = (path : List ℕ) (depth : ℕ) → MayFail now path depth
    → first path depth ⊎ HasFolder opens path depth xs

folder_kept : (opens : Facts → Bool) (path : List ℕ) (depth : ℕ) (xs : List Given) (x : Given)
    → HasFolder opens path depth xs → HasFolder opens path depth (xs ++ x ∷ [])
folder_kept opens path depth xs x h = (h.0, Contains-append_left xs (x ∷ []) h.0 h.1, h.2)

of_folders_more : {D : Type 0} (first : List ℕ → ℕ → Type 0) (opens : Facts → Bool) (mid new : WalkView D)
    (xs : List Given) (x : Given) → MayFailAt first opens xs mid → Places mid (Some x) new
    → AreOfFolders first opens xs → AreOfFolders first opens (xs ++ x ∷ [])
of_folders_more first opens mid new xs x may f are before after y path depth e i =
    elim (snoc_split xs x before after y e) [
      | inl l ↦
          subst (λ v. first path depth ⊎ HasFolder opens path depth v) l.2
          (may path depth (f.item path depth (subst (λ v. IsErrorAt path depth (Some v)) (sym l.1) i)))
      | inr r ↦ are before r.0 y path depth r.1 i
    ]

may_fail_more : {D : Type 0} (first : List ℕ → ℕ → Type 0) (opens : Facts → Bool) (mid new : WalkView D)
    (xs : List Given) (x : Given) → mid.may_open ≡ opens → MayFailAt first opens xs mid
    → Places mid (Some x) new → MayFailAt first opens (xs ++ x ∷ []) new
may_fail_more first opens mid new xs x same may f path depth i = elim i [
  | inl l ↦ elim (may path depth (f.later path depth l)) [
    | inl s ↦ inl s
    | inr s ↦ inr (folder_kept opens path depth xs x s)
  ]
  | inr b ↦ inr (
    x,
    Contains-push xs x,
    subst (λ n. IsFolderAt n path depth (Some x)) same (f.below path depth b),
  )
]

module _ {D C : Type 0} (law : Law D C) where
  -- these items were yielded, and `now` is the view of the walk; at most `less` more are to come, of `most`
  -- in all
  pub record Taking (walk now : WalkView D) (most less : ℕ) (xs : List Given) : Type 0 where
    pub gave : (p : Pending Given) → walk.to_come p → GaveSoFar walk.listings_left now p xs
    pub calls : List DirectoryCall
    pub answered : law.answered now.directory ≡ law.answered walk.directory ++ answers calls
    pub course : TakingCourse walk now calls xs
    pub listed_within : items_listed (answers calls) + now.listings_left ≤ walk.listings_left
    pub listed_exactly : ¬ now.has_ended
        → items_listed (answers calls) + now.listings_left ≡ walk.listings_left
    pub listed_spent : (path : List ℕ) (depth : ℕ) → Contains xs (fault Budget path depth)
        → items_listed (answers calls) ≡ walk.listings_left
    pub few : length xs + less ≤ most
    pub counts : CountsFaults (all_fault_counts xs) (all_items_lost xs) (law.tally walk.directory)
        (law.tally now.directory)
    pub taken : ℕ
    pub counted : (law.tally now.directory).items ≡ grown taken (law.tally walk.directory).items
    pub within : taken + now.listings_left ≤ walk.listings_left
    pub exactly : ¬ now.has_ended → taken + now.listings_left ≡ walk.listings_left
    pub spent : (path : List ℕ) (depth : ℕ) → Contains xs (fault Budget path depth)
        → taken ≡ walk.listings_left
    pub names : now.names_left ≤ walk.names_left
    pub misplaced : (path : List ℕ) (depth : ℕ) → Contains xs (fault NotAFolder path depth)
        → 0 < walk.names_left
    pub ended : EndedThere now xs
    pub of_folders : AreOfFolders (MayFail walk) walk.may_open xs
    pub may_fail : MayFailAt (MayFail walk) walk.may_open xs now
    pub idle : walk.is_idle → now.is_idle × (now.directory ≡ walk.directory)
    pub opened : ℕ
    pub opened_is : (law.tally now.directory).opened ≡ grown opened (law.tally walk.directory).opened
    pub ended_count : ℕ
    pub ended_is : (law.tally now.directory).ended ≡ grown ended_count (law.tally walk.directory).ended
    pub going : NoneLast xs → 0 < walk.listings_left → 0 < now.listings_left
    pub folders : ℕ
    pub opens : NoMemoryError xs
        → opened + now.to_open ≡ walk.to_open + (folders + count_to_open walk.may_open xs)
    pub closes : NoneLast xs → walk.listings_open + opened ≡ ended_count + now.listings_open
    pub above : now.may_open ≡ walk.may_open
    pub passed : ℕ
    pub folders_passed : folders ≤ passed
    pub passes : walk.yields_from ≡ 0 → passed ≡ 0
    pub refused : ℕ
    pub refuses : refused ≤ (all_fault_counts xs).failures
    pub gives : NoMemoryError xs
        → taken + (refused + walk.to_begin) ≡ length xs + (passed + now.to_begin)
    pub from : now.yields_from ≡ walk.yields_from

  module _ (walk mid new : WalkView D) (most less fewer : ℕ) (xs : List Given) where
    -- what was taken, with what a call took that gave an item
    taken_exactly : (h k : ℕ) (x : Given) → h + mid.listings_left ≡ walk.listings_left
        → Takes (Some x) mid.listings_left k new.listings_left → ¬ (IsLast (Some x))
        → h + k + new.listings_left ≡ walk.listings_left
    taken_exactly h k x e t n = elim (takes_exactly (Some x) mid.listings_left k new.listings_left t)
        [ inl i ↦ omega (arith, e, i) | inr i ↦ absurd (n i.0) ]

    taken_all : (h k : ℕ) (x : Given) (path : List ℕ) (depth : ℕ) → h + mid.listings_left ≡ walk.listings_left
        → Takes (Some x) mid.listings_left k new.listings_left
        → (Contains xs (fault Budget path depth) → h ≡ walk.listings_left)
        → Contains (xs ++ x ∷ []) (fault Budget path depth) → h + k ≡ walk.listings_left
    taken_all h k x path depth e t s c = elim (Contains-push_cases xs x (fault Budget path depth) c) [
      | inl d ↦ omega (arith, s d, takes_within (Some x) mid.listings_left k new.listings_left t, e)
      | inr d ↦ let b : Takes (Some (fault Budget path depth)) mid.listings_left k new.listings_left =
          subst (λ v. Takes (Some v) mid.listings_left k new.listings_left) d t in omega (arith, b.0, e)
    ]

    misplaced_more : (x : Given) (path : List ℕ) (depth : ℕ) → mid.names_left ≤ walk.names_left
        → (IsMisplaced (Some x) → 0 < mid.names_left)
        → (Contains xs (fault NotAFolder path depth) → 0 < walk.names_left)
        → Contains (xs ++ x ∷ []) (fault NotAFolder path depth) → 0 < walk.names_left
    misplaced_more x path depth e m s c = elim (Contains-push_cases xs x (fault NotAFolder path depth) c) [
      | inl d ↦ s d
      | inr d ↦ omega (arith, e, m (subst (λ v. IsMisplaced (Some v)) (sym d) tt))
    ]

    idles_more : (r : Option Given) → Taking walk mid most less xs → FeedStep law mid r new → walk.is_idle
        → new.is_idle × (new.directory ≡ walk.directory)
    idles_more r h f i =
        let before = h.idle i in
        let after = f.idles before.0 in
        (after.0, after.1 ∙ before.1)

    pub taking_more : (x : Given) → Taking walk mid most less xs → FeedStep law mid (Some x) new
        → fewer < less → Taking walk new most fewer (xs ++ x ∷ [])
    taking_more x h f l =
        let a = f.accounts in
        let n : mid.has_ended → ⊥ = λ i. let s : Some x ≡ None = (f.stays i).0 in cc in
        let e = h.exactly n in
        let k = items_listed (answers f.calls) in
        let listed = listed_more h.calls f.calls in
        let all = h.listed_exactly n in
        let lost = all_items_lost xs + items_lost (Some x) in
        let P : Tally → Type 0 =
        λ c. CountsFaults c lost (law.tally walk.directory) (law.tally new.directory) in
        let Q : ℕ → Type 0 = λ m. CountsFaults (all_fault_counts (xs ++ x ∷ [])) m (law.tally walk.directory)
        (law.tally new.directory) in
        let F : Tally → Type 0 = λ c. h.refused + a.refused ≤ c.failures in
        record {
          gave = λ p c. gave_more walk.listings_left mid new p xs x n (λ q i. f.gives q i) a.ends
              (h.gave p c);
          calls = h.calls ++ f.calls;
          answered = answered_more law.answered walk.directory mid.directory new.directory h.calls f.calls
              h.answered f.answered;
          course = course_more walk mid new h.calls f.calls xs x n f.begins f.follows h.course;
          listed_within =
              let most = takes_within (Some x) mid.listings_left k new.listings_left f.spends in
              omega (arith, listed, all, most);
          listed_exactly = λ m. omega (
            arith,
            listed,
            taken_exactly (items_listed (answers h.calls)) k x all f.spends (λ i. m (a.ends i)),
          );
          listed_spent = λ path depth c.
              listed
              ∙ taken_all (items_listed (answers h.calls)) k x path depth all f.spends
              (h.listed_spent path depth) c;
          few = let long = length-append xs (x ∷ []) in omega (arith, h.few, l, long);
          counts = subst Q (sym (lost_more xs x))
              (subst P (sym (faults_more xs x)) (counts_faults_then _ _ _ _ _ _ _ h.counts a.counts));
          passed = h.passed + a.passed;
          passes = λ e. omega (arith, h.passes e, a.passes (h.from ∙ e));
          refused = h.refused + a.refused;
          refuses = subst F (sym (faults_more xs x)) (omega (arith, h.refuses, a.refuses));
          gives = λ m.
              let p = memory_parts xs x m in
              let long = length-append xs (x ∷ []) in
              omega (arith, h.gives p.0, a.gives p.1, long);
          from = f.from ∙ h.from;
          taken = h.taken + a.taken;
          counted = grown_then h.taken a.taken _ _ _ h.counted a.counted;
          within = omega (
            arith,
            e,
            takes_within (Some x) mid.listings_left a.taken new.listings_left
                a.takes,
          );
          exactly = λ m. taken_exactly h.taken a.taken x e a.takes (λ i. m (a.ends i));
          spent = λ path depth c. taken_all h.taken a.taken x path depth e a.takes (h.spent path depth) c;
          names = omega (arith, h.names, f.names);
          misplaced = λ path depth c. misplaced_more x path depth h.names f.misplaced (h.misplaced path depth)
              c;
          ended = ended_more mid new xs x n a.ends h.ended;
          of_folders = of_folders_more (MayFail walk) walk.may_open mid new xs x h.may_fail f.places
              h.of_folders;
          may_fail = may_fail_more (MayFail walk) walk.may_open mid new xs x h.above h.may_fail f.places;
          idle = idles_more (Some x) h f;
          opened = h.opened + a.opened;
          opened_is = grown_then h.opened a.opened _ _ _ h.opened_is a.opened_is;
          ended_count = h.ended_count + a.ended;
          ended_is = grown_then h.ended_count a.ended _ _ _ h.ended_is a.ended_is;
          going = λ m i. let p = none_last_parts xs x m in a.going p.1 (h.going p.0 i);
          folders = h.folders + a.folders;
          folders_passed = omega (arith, h.folders_passed, a.folders_passed);
          opens = λ m.
              let p = memory_parts xs x m in
              let one : opens_one mid.may_open (Some x) ≡ cond (is_to_open walk.may_open x) 1 0 =
              ap (λ v. cond (is_to_open v x) 1 0) h.above in
              omega (arith, h.opens p.0, a.opens p.1, opened_more walk.may_open xs x, one);
          closes = λ m. let p = none_last_parts xs x m in omega (arith, h.closes p.0, a.closes p.1);
          above = f.above ∙ h.above;
        }

    -- the answers are those of all calls, or the last call had none
    spends_end : (h : Taking walk mid most less xs) (f : FeedStep law mid None new) (told : List Answer)
        → (told ≡ answers (h.calls ++ f.calls)) ⊎ (told ≡ answers h.calls)
        → SpendsWithin walk.listings_left told xs
    spends_end h f told same =
        let j = items_listed (answers h.calls) in
        let k = items_listed (answers f.calls) in
        let left : k + new.listings_left ≡ mid.listings_left = f.spends in
        let n = items_listed told in
        let between : (j ≤ n) × (n ≤ j + k) = elim same [
          | inl e ↦
              let i = ap items_listed e in
              let l = listed_more h.calls f.calls in (omega (arith, i, l), omega (arith, i, l))
          | inr e ↦ let i = ap items_listed e in (omega (arith, i), omega (arith, i))
        ] in
        record {
          within = omega (arith, between.1, left, h.listed_within);
          spent = λ path depth c.
              omega (arith, between.0, between.1, h.listed_spent path depth c, h.listed_within, left);
          going = λ m i.
              omega (arith, between.1, left, h.listed_within, f.accounts.going (λ l. l) (h.going m i));
        }

    pub taking_end : Taking walk mid most less xs → FeedStep law mid None new
        → ((q : Pending Given) → new.to_come q → law.tells new.directory q.listed)
        → Took law walk new.directory xs
    taking_end h f t =
        let a = f.accounts in
        let told = course_end walk mid new h.calls f.calls xs law.answered h.answered f.answered
        (λ i. (f.idles i).1) f.follows h.course in
        let e : a.taken + new.listings_left ≡ mid.listings_left = a.takes in
        record {
          all = λ p c. gave_all walk.listings_left mid new p xs (law.tells new.directory) (λ q i. f.gives q i)
              t (h.gave p c);
          told = told.0;
          answered = told.1;
          course = told.2;
          spends = spends_end h f told.0 told.3;
          counts = counts_then_none _ _ _ _ _ h.counts a.counts;
          passed = h.passed + a.passed;
          passes = λ e. omega (arith, h.passes e, a.passes (h.from ∙ e));
          refused = h.refused;
          refuses = h.refuses;
          gives = λ m. omega (arith, h.gives m, a.gives (λ i. i), a.refuses, f.begun refl);
          taken = h.taken + a.taken;
          counted = grown_then h.taken a.taken _ _ _ h.counted a.counted;
          within = omega (arith, h.within, e);
          spent = λ path depth c. omega (arith, h.spent path depth c, h.within, e);
          misplaced = h.misplaced;
          ends_there = λ before after x e last. (h.ended before after x e last).0;
          of_folders = h.of_folders;
          unasked = λ i. (idles_more None h f i).1;
          opened = h.opened + a.opened;
          opened_is = grown_then h.opened a.opened _ _ _ h.opened_is a.opened_is;
          ended = h.ended_count + a.ended;
          ended_is = grown_then h.ended_count a.ended _ _ _ h.ended_is a.ended_is;
          going = λ m i. omega (arith, h.within, e, a.going (λ l. l) (h.going m i));
          folders = h.folders + a.folders;
          folders_passed = omega (arith, h.folders_passed, a.folders_passed);
          opens = λ m. omega (arith, h.opens m, a.opens (λ i. i), f.to_open);
          closes = λ m. omega (arith, h.closes m, a.closes (λ i. i), f.closed refl);
        }

  pub taking_none : (walk : WalkView D) (most : ℕ) → Taking walk walk most most []
  taking_none walk most = record {
    gave = λ p c. goes_on p c refl refl (λ n. omega arith);
    calls = [];
    answered = sym (append-nil (law.answered walk.directory));
    course = course_none walk;
    listed_within = omega arith;
    listed_exactly = λ e. omega arith;
    listed_spent = λ path depth c. absurd (contains_none (fault Budget path depth) c);
    few = omega arith;
    counts = counts_nothing (law.tally walk.directory);
    taken = 0;
    counted = omega arith;
    within = omega arith;
    exactly = λ e. omega arith;
    spent = λ path depth c. absurd (contains_none (fault Budget path depth) c);
    names = omega arith;
    misplaced = λ path depth c. absurd (contains_none (fault NotAFolder path depth) c);
    ended = λ before after x e last. absurd (none_split before after x e);
    of_folders = λ before after x path depth e i. absurd (none_split before after x e);
    may_fail = λ path depth i. inl i;
    idle = λ i. (i, refl);
    opened = 0;
    opened_is = omega arith;
    ended_count = 0;
    ended_is = omega arith;
    going = λ m i. i;
    folders = 0;
    folders_passed = omega arith;
    opens = λ m. omega arith;
    closes = λ m. omega arith;
    above = refl;
    passed = 0;
    passes = λ e. refl;
    refused = 0;
    refuses = omega arith;
    gives = λ m. omega arith;
    from = refl;
  }

-- ---- what is kept of it

module _ {T R : Type 0} (of_entry : T → Facts) (of_residue : R → Facts) where
  outcome_kept : (x : Result T WalkError) → is_kept (given_outcome of_entry of_residue x) ≡ true
  outcome_kept (Ok e) = refl
  outcome_kept (Err (Fault kind path depth)) = refl
  outcome_kept (Err Memory) = refl

  residue_left : (x : TreeResidue R) → is_kept (given_residue of_entry of_residue x) ≡ false
  residue_left (Node e) = refl
  residue_left (Tree e) = refl

  kept_one : {S : Type 0} (x : Separation S (Result T WalkError) (TreeResidue R))
      → map (given_outcome of_entry of_residue) (kept_of x)
      ≡ filter is_kept (given_of of_entry of_residue x ∷ [])
  kept_one (Filtrate x) = rw (outcome_kept x.inner) refl
  kept_one (Residue x) = rw (residue_left x.inner) refl

  pub kept_more : {S : Type 0} (zs ys : List (Result T WalkError))
      (x : Separation S (Result T WalkError) (TreeResidue R)) (xs : List Given) → zs ≡ ys ++ kept_of x
      → map (given_outcome of_entry of_residue) ys ≡ filter is_kept xs
      → map (given_outcome of_entry of_residue) zs
      ≡ filter is_kept (xs ++ given_of of_entry of_residue x ∷ [])
  kept_more zs ys x xs e f =
      let given = given_outcome of_entry of_residue in
      let y = given_of of_entry of_residue x in
      ap (map given) e ∙ (map-append given ys (kept_of x)
      ∙ (ap (λ v. v ++ map given (kept_of x)) f
      ∙ (ap (λ v. filter is_kept xs ++ v) (kept_one x) ∙ sym (filter-append is_kept xs (y ∷ [])))))

-- a weaker fact holds of a returned value
pub map_ok : {A E : Type 0} {P Q : A → Type 0} → ((a : A) → P a → Q a) → (r : Result A E) → IfOk r P
    → IfOk r Q
map_ok f (Ok a) h = f a h
map_ok f (Err e) h = h
