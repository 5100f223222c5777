-- What the prefixes of several globs share.
use Rattle.std.proofs.Common.{◌≡◌, ◌∙◌, ◌<◌, ◌≤◌, ◌+◌, ℕ, zero, suc, Bool, false, List, [], ◌∷◌, ◌++◌, Option}
use Rattle.std.proofs.Common.{Some, None, map, length, take, take_all, get_or, inl, inr, refl, sym, subst, ap}
use Rattle.std.proofs.{Common.{arith, append_assoc, append-nil, chars, String}, Math.Seq.take-suc}
use Rattle.std.proofs.lemmas.List.{map-append}
use Rattle.std.proofs.lemmas.List.Elements.{Contains-append_cases, Contains-append_left}
use Rattle.std.proofs.lemmas.List.Elements.{Contains-append_right}
use Rattle.std.specs.{Prelude.{MatchOption, unwrap_or}, List.Contains, declared.alloc.Global.Global}
use Rattle.wax_facts.specs.Prefix.{Prefix}
use Rattle.wax_token.specs.{Meaning.{Means, MeansSome}, Reads.Span, Syntax.{Tree, alternation}, Words.trees}
use Rattle.wax_tree.specs.Prefix.{from_last}
use Rattle.wax_exclude.specs.{Candidates.text_at, Premises.{BeginsWith, IsUnmeant}}
use Rattle.wax_exclude.specs.Prefix.{AreShared, HasEmptyName, HasPrefixNames, IsCommonPrefix, longest, mixed}
use Rattle.wax_exclude.specs.{Prefix.{no_names, PrefixSplitsInto}, declared.prefixes.PrefixNames.PrefixNames}
use Rattle.wax_exclude.specs.inner.Shared.{IsBeginning, IsCommonBeginning, NarrowsTo, ShareNothing}
use Rattle.wax_exclude.proofs.SplitPrefixes.{same_split}

-- ---- lists of names that begin with others

begins_over : (front names more : List (List ℕ)) → IsBeginning front names → IsBeginning names more
    → IsBeginning front more
begins_over front names more h k = (h.0 ++ k.0, k.1 ∙ ap (λ v. v ++ k.0) h.1 ∙ append_assoc front h.0 k.0)

begins_none : (front : List (List ℕ)) → IsBeginning front [] → front ≡ []
begins_none [] h = refl
begins_none (f ∷ front) h = absurd (let e : [] ≡ f ∷ (front ++ h.0) = h.1 in cc)

pub none_left : (others : List (List ℕ)) → ShareNothing [] others
none_left others front h k = begins_none front h

pub none_right : (names : List (List ℕ)) → ShareNothing names []
none_right names front h k = begins_none front k

pub no_text : (names : List (String Global)) → length names ≡ 0 → from_last names ≡ []
no_text [] e = refl
no_text (n ∷ names) e = absurd (omega (arith, e))

pub apart_first : (n m : List ℕ) (names others : List (List ℕ)) → ¬ (n ≡ m)
    → ShareNothing (n ∷ names) (m ∷ others)
apart_first n m names others d [] h k = refl
apart_first n m names others d (f ∷ front) h k =
    let e : n ≡ f = (let w : n ∷ names ≡ f ∷ (front ++ h.0) = h.1 in cc) in
    let g : m ≡ f = (let w : m ∷ others ≡ f ∷ (front ++ k.0) = k.1 in cc) in
    absurd (d (e ∙ sym g))

within : (done front names others r q : List (List ℕ)) → ShareNothing names others
    → done ++ names ≡ front ++ r → done ++ others ≡ front ++ q → IsBeginning front done
within done [] names others r q s e g = (done, refl)
within [] (f ∷ front) names others r q s e g =
    absurd (let w : f ∷ front ≡ [] = s (f ∷ front) (r, e) (q, g) in cc)
within (d ∷ done) (f ∷ front) names others r q s e g =
    let same : d ≡ f = cc in
    let k : IsBeginning front done = within done front names others r q s (cc) (cc) in
    (k.0, (λ i. same i ∷ k.1 i))

-- names that were found in both, before what shares no more
pub common_after : (done names others xs ys : List (List ℕ)) → xs ≡ done ++ names → ys ≡ done ++ others
    → ShareNothing names others → IsCommonBeginning xs ys done
common_after done names others xs ys e g s = record {
  first = (names, e);
  second = (others, g);
  greatest = λ front h k. within done front names others h.0 k.0 s (sym e ∙ h.1) (sym g ∙ k.1);
}

nothing_more : (names more rest : List (List ℕ)) → names ≡ (names ++ more) ++ rest → more ≡ []
nothing_more [] more rest e = begins_none more (rest, e)
nothing_more (n ∷ names) more rest e = nothing_more names more rest (cc)

begins_mapped : (front names : List (List ℕ)) → IsBeginning front names
    → IsBeginning (map chars front) (map chars names)
begins_mapped front names h = (map chars h.0, ap (map chars) h.1 ∙ map-append chars front h.0)

-- ---- what is known of one glob, and of those until now

-- the prefix doesn't split into names, and no path of names matches
pub record IsPassedOver {A : Type 0} (t : Tree A) : Type 0 where
  pub nameless : (rooted : Bool) (own : List (List ℕ)) → ¬ (HasPrefixNames t rooted own)
  pub unmeant : (rooted : Bool) → IsUnmeant rooted t

-- the prefix splits into these names alone, with which each path of names that matches begins
pub record HasOwnNames {A : Type 0} (t : Tree A) (rooted : Bool) (names : List (List ℕ)) : Type 0 where
  pub has : HasPrefixNames t rooted names
  pub only : (r : Bool) (own : List (List ℕ)) → HasPrefixNames t r own → (r ≡ rooted) × (own ≡ names)
  pub begins : BeginsWith rooted t (map chars names)

-- some prefix splits into names, and these are the longest that all of them share
pub record SharesNames {A : Type 0} (ts : List (Tree A)) (rooted : Bool)
    (names : List (List ℕ)) : Type 0 where
  pub shared : AreShared ts rooted names
  pub greatest : (front : List (List ℕ)) → AreShared ts rooted front → IsBeginning front names
  pub some : (t : Tree A) × Contains ts t × ((own : List (List ℕ)) × HasPrefixNames t rooted own)
  pub begins : (t : Tree A) → Contains ts t → BeginsWith rooted t (map chars names)

-- what is shared until now
abbrev pub SharesUntil : {A : Type 0} → List (Tree A) → Option PrefixNames → Type 0
SharesUntil {A = A} ts None = (t : Tree A) → Contains ts t → IsPassedOver t
SharesUntil ts (Some shared) = SharesNames ts shared.is_rooted (from_last shared.names.items)

pub own_names : {A : Type 0} (t : Tree A) (o : Option PrefixNames) → ((n : ℕ) × (p : List ℕ) × Prefix t n p) →
    ((n : ℕ) (p : List ℕ) → Prefix t n p
    → MatchOption o (HasEmptyName p) (λ w. PrefixSplitsInto p w.is_rooted (from_last w.names.items))) →
    MatchOption o ((rooted : Bool) → IsUnmeant rooted t)
    (λ w. BeginsWith w.is_rooted t (map chars (from_last w.names.items))) →
    MatchOption o (IsPassedOver t) (λ w. HasOwnNames t w.is_rooted (from_last w.names.items))
own_names t None is names meant = record {
  nameless = λ rooted own h. h.3.unbroken (names h.0 h.1 h.2);
  unmeant = meant;
}
own_names t (Some w) is names meant = record {
  has = (is.0, is.1, is.2, names is.0 is.1 is.2);
  only = λ r own h. same_split h.1 r w.is_rooted own (from_last w.names.items) h.3 (names h.0 h.1 h.2);
  begins = meant;
}

-- ---- one glob more

module _ {A : Type 0} (ts : List (Tree A)) (t : Tree A) where
  abbrev longer : List (Tree A)
  longer = ts ++ t ∷ []

  before : (x : Tree A) → Contains ts x → Contains longer x
  before x i = Contains-append_left ts (t ∷ []) x i

  last : Contains longer t
  last = Contains-append_right ts (t ∷ []) t (0, omega arith, refl)

  alone : (x : Tree A) → Contains (t ∷ []) x → t ≡ x
  alone x (zero, l, e) = e
  alone x (suc k, l, e) = absurd (omega (arith, l))

  each : (P : Tree A → Type 0) → ((x : Tree A) → Contains ts x → P x) → P t → (x : Tree A)
      → Contains longer x → P x
  each P h k x i = elim (Contains-append_cases ts (t ∷ []) x i) [
    | inl j ↦ h x j
    | inr j ↦ subst P (alone x j) k
  ]

  abbrev Sharing : Bool → List (List ℕ) → Tree A → Type 0
  Sharing rooted names x = (r : Bool) (own : List (List ℕ)) → HasPrefixNames x r own
      → (r ≡ rooted) × IsBeginning names own

  pub pass_over : (o : Option PrefixNames) → SharesUntil ts o → IsPassedOver t → SharesUntil longer o
  pass_over None h p = each IsPassedOver h p
  pass_over (Some w) h p =
      let rooted = w.is_rooted in
      let names = from_last w.names.items in record {
        shared = each (Sharing rooted names) h.shared (λ r own k. absurd (p.nameless r own k));
        greatest = λ front k. h.greatest front (λ x i. k x (before x i));
        some = (h.some.0, before h.some.0 h.some.1, h.some.2);
        begins = each (λ x. BeginsWith rooted x (map chars names)) h.begins
            (λ others are m. absurd (p.unmeant rooted others are m));
      }

  pub take_first : (rooted : Bool) (names : List (List ℕ)) → ((x : Tree A) → Contains ts x → IsPassedOver x)
      → HasOwnNames t rooted names → SharesNames longer rooted names
  take_first rooted names h k = record {
    shared = each (Sharing rooted names) (λ x i r own j. absurd ((h x i).nameless r own j))
        (λ r own j. let e = k.only r own j in (e.0, ([], e.1 ∙ sym (append-nil names))));
    greatest = λ front j. (j t last rooted names k.has).1;
    some = (t, last, (names, k.has));
    begins = each (λ x. BeginsWith rooted x (map chars names))
        (λ x i others are m. absurd ((h x i).unmeant rooted others are m)) k.begins;
  }

  pub narrow : (rooted : Bool) (names own common : List (List ℕ)) → SharesNames ts rooted names
      → HasOwnNames t rooted own → IsCommonBeginning names own common → SharesNames longer rooted common
  narrow rooted names own common h k c =
      let cut : (x : Tree A) (more : List (List ℕ)) → IsBeginning common more
      → BeginsWith rooted x (map chars more) → BeginsWith rooted x (map chars common) =
      λ x more b w others are m. begins_over (map chars common) (map chars more) others
      (begins_mapped common more b) (w others are m) in record {
        shared = each (Sharing rooted common) (λ x i r o j. let s = h.shared x i r o j in
            (s.0, begins_over common names o c.first s.1))
            (λ r o j. let e = k.only r o j in (e.0, subst (IsBeginning common) (sym e.1) c.second));
        greatest = λ front j. c.greatest front (h.greatest front (λ x i. j x (before x i)))
            (j t last rooted own k.has).1;
        some = (h.some.0, before h.some.0 h.some.1, h.some.2);
        begins = each (λ x. BeginsWith rooted x (map chars common))
            (λ x i. cut x names c.first (h.begins x i)) (cut t own c.second k.begins);
      }

-- ---- what is told at the end

pub mixed_roots : {A : Type 0} (all ts : List (Tree A)) (t : Tree A) (rooted r : Bool)
    (names own : List (List ℕ)) → ((x : Tree A) → Contains ts x → Contains all x) → Contains all t →
    SharesNames ts rooted names → HasOwnNames t r own → ¬ (rooted ≡ r) → (b : Bool) → ¬ (AreShared all b [])
mixed_roots all ts t rooted r names own among at h k apart b shared =
    apart ((shared h.some.0 (among h.some.0 h.some.1) rooted h.some.2.0 h.some.2.1).0
    ∙ sym (shared t at r own k.has).0)

pub longest_shared : {A : Type 0} (ts : List (Tree A)) (rooted : Bool) (names : List (List ℕ))
    → SharesNames ts rooted names → IsCommonPrefix ts rooted names
longest_shared ts rooted names h = longest h.shared (λ more k. let b : IsBeginning (names ++ more) names =
    h.greatest (names ++ more) k in nothing_more names more b.0 b.1)

meant_by : {A : Type 0} (ts : List (Tree A)) (b f : Bool) (s : List ℕ) → MeansSome (trees ts) b f s
    → (t : Tree A) × Contains ts t × Means t b f s
meant_by {A = A} [] b f s m = absurd m
meant_by {A = A} (t ∷ ts) b f s (inl m) = (t, (0, omega arith, refl), m)
meant_by {A = A} (t ∷ ts) b f s (inr m) =
    let k : (u : Tree A) × Contains ts u × Means u b f s = meant_by ts b f s m in
    (k.0, (suc k.1.0, omega (arith, k.1.1), k.1.2), k.2)

pub all_begin : (ts : List (Tree Span)) (rooted : Bool) (names : List (List ℕ)) → SharesNames ts rooted names
    → (a : Span) → BeginsWith rooted (alternation a (trees ts)) (map chars names)
all_begin ts rooted names h a others are m =
    let k : (u : Tree Span) × Contains ts u × Means u false false (text_at rooted others) =
    meant_by ts false false (text_at rooted others) m in
    h.begins k.0 k.1 others are k.2

pub none_begin : {A : Type 0} (t : Tree A) (rooted : Bool) (names : List (List ℕ)) → names ≡ []
    → BeginsWith rooted t (map chars names)
none_begin t rooted names e others are m = (others, ap (λ v. map chars v ++ others) (sym e))

-- ---- the loop over the globs

contained : {A : Type 0} (ts : List (Tree A)) (i : ℕ) (x : Tree A) → Contains (take i ts) x → Contains ts x
contained {A = A} ts zero x (k, l, e) = absurd (omega (arith, l))
contained {A = A} [] (suc i) x (k, l, e) = absurd (omega (arith, l))
contained {A = A} (t ∷ ts) (suc i) x (zero, l, e) = (0, omega arith, e)
contained {A = A} (t ∷ ts) (suc i) x (suc k, l, e) =
    let r : Contains ts x = contained ts i x (k, omega (arith, l), e) in
    (suc r.0, omega (arith, r.1), r.2)

module _ (ts : List (Tree Span)) (i : ℕ) (t : Tree Span) (less : i < length ts) (here : t ≡ get_or ts i t)
    (o : Option PrefixNames)
    (known : MatchOption o (IsPassedOver t) (λ w. HasOwnNames t w.is_rooted (from_last w.names.items)))
    (state : Option PrefixNames) (until : SharesUntil (take i ts) state) where
  one_more : take (i + 1) ts ≡ take i ts ++ t ∷ []
  one_more =
      let n : i + 1 ≡ suc i = omega arith in
      ap (λ k. take k ts) n ∙ take-suc ts i t less ∙ ap (λ v. take i ts ++ v ∷ []) (sym here)

  pub passed_on : o ≡ None → SharesUntil (take (i + 1) ts) state
  passed_on e = subst (λ v. SharesUntil v state) (sym one_more)
      (pass_over (take i ts) t state until (subst (λ v.
      MatchOption v (IsPassedOver t) (λ w. HasOwnNames t w.is_rooted (from_last w.names.items))) e known))

  module _ (own : PrefixNames) (is : o ≡ Some own) where
    has_own : HasOwnNames t own.is_rooted (from_last own.names.items)
    has_own = subst (λ v.
        MatchOption v (IsPassedOver t) (λ w. HasOwnNames t w.is_rooted (from_last w.names.items))) is known

    narrower_by : (s : Option PrefixNames) → SharesUntil (take i ts) s → (narrower : PrefixNames)
        → NarrowsTo s own (Some narrower) → SharesUntil (take i ts ++ t ∷ []) (Some narrower)
    narrower_by None h narrower k =
        let e : narrower ≡ own = cc in
        subst (λ v. SharesUntil (take i ts ++ t ∷ []) (Some v)) (sym e)
        (take_first (take i ts) t own.is_rooted (from_last own.names.items) h has_own)
    narrower_by (Some s) h narrower k =
        let names = from_last narrower.names.items in
        let one : HasOwnNames t s.is_rooted (from_last own.names.items) =
        subst (λ b. HasOwnNames t b (from_last own.names.items)) (sym k.0) has_own in
        subst (λ b. SharesNames (take i ts ++ t ∷ []) b names) (sym k.1)
        (narrow (take i ts) t s.is_rooted (from_last s.names.items)
        (from_last own.names.items) names h one k.2)

    pub narrowed_on : (narrower : PrefixNames) → NarrowsTo state own (Some narrower)
        → SharesUntil (take (i + 1) ts) (Some narrower)
    narrowed_on narrower k =
        subst (λ v. SharesUntil v (Some narrower)) (sym one_more) (narrower_by state until narrower k)

    refused : (s : Option PrefixNames) → SharesUntil (take i ts) s → NarrowsTo s own None → (b : Bool)
        → ¬ (AreShared ts b [])
    refused None h k = absurd (let f : ⊥ = cc in f)
    refused (Some s) h k =
        mixed_roots ts (take i ts) t s.is_rooted own.is_rooted (from_last s.names.items)
        (from_last own.names.items) (contained ts i) (i, less, sym here) h has_own k

    pub refused_on : (rooted : Bool) (names : List (List ℕ)) → NarrowsTo state own None → rooted ≡ false
        → names ≡ [] → IsCommonPrefix ts rooted names
    refused_on rooted names k r n = mixed (refused state until k) r n

module _ (ts : List (Tree Span)) (i : ℕ) (past : length ts ≤ i) (default : PrefixNames)
    (unrooted : default.is_rooted ≡ false) (nameless : from_last default.names.items ≡ []) where
  all_taken : (s : Option PrefixNames) → SharesUntil (take i ts) s → SharesUntil ts s
  all_taken s h = subst (λ v. SharesUntil v s) (take_all i ts past) h

  common_of : (s : Option PrefixNames) → SharesUntil ts s
      → IsCommonPrefix ts (unwrap_or s default).is_rooted (from_last (unwrap_or s default).names.items)
  common_of None h = no_names (λ t c. (h t c).nameless) unrooted nameless
  common_of (Some s) h = longest_shared ts s.is_rooted (from_last s.names.items) h

  meant_of : (s : Option PrefixNames) → SharesUntil ts s → (a : Span)
      → BeginsWith (unwrap_or s default).is_rooted (alternation a (trees ts))
      (map chars (from_last (unwrap_or s default).names.items))
  meant_of None h a =
      none_begin (alternation a (trees ts)) default.is_rooted (from_last default.names.items) nameless
  meant_of (Some s) h a = all_begin ts s.is_rooted (from_last s.names.items) h a

  pub ended_common : (s : Option PrefixNames) (w : PrefixNames) → SharesUntil (take i ts) s
      → w ≡ unwrap_or s default → IsCommonPrefix ts w.is_rooted (from_last w.names.items)
  ended_common s w h e = subst (λ v. IsCommonPrefix ts v.is_rooted (from_last v.names.items)) (sym e)
      (common_of s (all_taken s h))

  pub ended_meant : (s : Option PrefixNames) (w : PrefixNames)
      → SharesUntil (take i ts) s → w ≡ unwrap_or s default → (a : Span)
      → BeginsWith w.is_rooted (alternation a (trees ts)) (map chars (from_last w.names.items))
  ended_meant s w h e a =
      subst (λ v. BeginsWith v.is_rooted (alternation a (trees ts)) (map chars (from_last v.names.items)))
      (sym e) (meant_of s (all_taken s h) a)
