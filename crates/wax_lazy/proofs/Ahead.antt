-- Whether a text below another is accepted.
use Rattle.std.proofs.Common.{◌≡◌, ◌≢◌, ◌↔◌, ◌⊎◌, ℕ, Bool, IsTrue, true, false, List, [], ◌∷◌, ◌++◌, Option}
use Rattle.std.proofs.Common.{if◌then◌else◌, inl, inr, refl, sym, ◌∙◌, ap, subst, true≢false, arith}
use Rattle.std.proofs.{lemmas.Bool.cases_eq, lemmas.List.{append-nil, append_assoc}}
use Rattle.std.specs.Str.{all_scalars}
use Rattle.wax_lazy.specs.{Verdict.AcceptsBelow, inner.Cached.{AcceptsAhead, AnyAhead, IsAheadVerdict}}
use Rattle.wax_program.specs.declared.instruction.Instruction.{Instruction}
use Rattle.wax_program.specs.declared.onward.Ahead.TheVariants.{Rest, Path, Below}
use Rattle.wax_program.specs.{declared.onward.Ahead.Ahead, Last.{IsLastName, ReadsLast}, Machine.Accepts}
use Rattle.wax_program.specs.{Onward.{AreFlagsOf, PlaceFlags, GoesOn, IsAhead}, Threads.AnyAmong}
use Rattle.wax_program.proofs.Opens.{folder_scalars, last_open, path_closed}
use Rattle.wax_program.proofs.Scalars.{scalar_rest, scalars_after, scalars_append}
use Rattle.wax_query.proofs.{Below.{allows_one, one_name, path_goes_on}, Ends.closed_name}
use Rattle.wax_query.specs.{Below.{IsPathWithin, folder_text, ends_open}, Components.HasNoSlash}
use Rattle.wax_query.specs.Ranges.{AtMost}

-- a name
a_digit : (c : ℕ) → c ≡ 48 → c ≢ 47
a_digit c e f = omega (arith, e, f)

digit : (most : Option ℕ) → AtMost 1 most → IsPathWithin most (48 ∷ [])
digit most one = one_name most 48 [] one (a_digit 48 refl, tt)

-- ---- whether there is a text of each kind: the rest of a name is there with each limit
abbrev HasText : Option ℕ → Ahead → Type 0
HasText most m = (s : List ℕ) × IsAhead most m s

pub has_rest : (most : Option ℕ) (m : Ahead) → m ≡ Rest → HasText most m
has_rest most m is = subst (HasText most) (sym is) ([], (refl, (path_goes_on most []).1 tt))

has_path : (most : Option ℕ) → AtMost 1 most ↔ HasText most Path
has_path most = (
  (λ one. (48 ∷ [], (refl, digit most one))),
  (λ (s, (all, h)). allows_one most s h),
)

has_below : (most : Option ℕ) → AtMost 1 most ↔ HasText most Below
has_below most = (
  (λ one. (47 ∷ 48 ∷ [], (refl, (48 ∷ [], digit most one, refl)))),
  (λ (s, (all, (path, h, e))). allows_one most path h),
)

pub has_name : (most : Option ℕ) (m : Ahead) → (m ≡ Path) ⊎ (m ≡ Below) → AtMost 1 most ↔ HasText most m
has_name most m is = elim is [
  | inl e ↦ subst (λ m. AtMost 1 most ↔ HasText most m) (sym e) (has_path most)
  | inr e ↦ subst (λ m. AtMost 1 most ↔ HasText most m) (sym e) (has_below most)
]

module _ (code : List Instruction) (start : ℕ) (text : List ℕ) where
  accepts_whole : Accepts code start (text ++ []) ↔ Accepts code start text
  accepts_whole = (
    (λ a. subst (Accepts code start) (append-nil text) a),
    (λ a. subst (Accepts code start) (sym (append-nil text)) a),
  )

  pub matches_none : ((s : List ℕ) → Accepts code start (text ++ s) → ⊥)
      → IsTrue false ↔ Accepts code start text
  matches_none none =
      ((λ t. absurd (true≢false (sym t))), (λ a. absurd (none [] (accepts_whole.1 a))))

  pub matches_all : ((s : List ℕ) → Accepts code start (text ++ s)) → IsTrue true ↔ Accepts code start text
  matches_all all = ((λ _. accepts_whole.0 (all [])), (λ _. refl))

  module _ (places : List ℕ)
      (leads : (s : List ℕ) → Accepts code start (text ++ s) ↔ AnyAmong code places s) where
    pub matches_at : AnyAmong code places [] ↔ Accepts code start text
    matches_at = ((λ a. accepts_whole.0 ((leads []).1 a)), (λ a. (leads []).0 (accepts_whole.1 a)))

    pub ahead_at : (most : Option ℕ) (m : Ahead) (f : PlaceFlags) → AreFlagsOf code most f
        → AnyAhead f m places ↔ AcceptsAhead code most start text m
    ahead_at most m f are = (
      (λ (k, held, h). (let (s, below, a) = (are m k).0 h in (s, below, (leads s).1 (k, held, a)))),
      (λ (s, below, a). (let (k, held, b) = (leads s).0 a in (k, held, (are m k).1 (s, below, b)))),
    )

  module _ (most : Option ℕ) (m : Ahead) where
    pub verdict_nothing : ((s : List ℕ) → Accepts code start (text ++ s) → ⊥)
        → IsAheadVerdict code most start text m (record { is_match = false; goes_on = false })
    verdict_nothing none = record {
      matches = matches_none none;
      ahead = ((λ t. absurd (true≢false (sym t))), (λ (s, below, a). absurd (none s a)));
    }

    pub verdict_everything : (has : Bool) → (IsTrue has ↔ HasText most m)
        → ((s : List ℕ) → Accepts code start (text ++ s))
        → IsAheadVerdict code most start text m (record { is_match = true; goes_on = has })
    verdict_everything has is all = record {
      matches = matches_all all;
      ahead = ((λ t. (let (s, h) = is.0 t in (s, h, all s))), (λ (s, h, a). is.1 (s, h)));
    }

-- ---- programs for which only the last component matters
last_more : (c : ℕ) (s name : List ℕ) → HasNoSlash name
    → (s ≡ name) ⊎ ((before : List ℕ) × (s ≡ before ++ 47 ∷ name))
    → (name : List ℕ) × IsLastName (c ∷ s) name
last_more c s name none (inr (before, e)) = (name, (none, inr (c ∷ before, ap (λ z. c ∷ z) e)))
last_more c s name none (inl e) = elim (cases_eq c 47) [
  | inl here ↦ (name, (none, inr ([], headed here e)))
  | inr ne ↦ (c ∷ s, ((ne, subst HasNoSlash (sym e) none), inl refl))
] where
  headed : c ≡ 47 → s ≡ name → c ∷ s ≡ [] ++ 47 ∷ name
  headed here e = cc

last_of : (s : List ℕ) → (name : List ℕ) × IsLastName s name
last_of [] = ([], (tt, inl refl))
last_of (c ∷ s) = let (name, is) = last_of s in last_more c s name is.0 is.1

-- a folder's text is empty or ends with `/`
abbrev EndsOpen : List ℕ → Type 0
EndsOpen s = (s ≡ []) ⊎ ((before : List ℕ) × (s ≡ before ++ 47 ∷ []))

folder_parts : (text : List ℕ) → EndsOpen (folder_text text)
folder_parts text = let (name, is) = last_of text in of name is (last_open text name is)
  where
    text_if : Bool → List ℕ
    text_if b = if b then text else text ++ 47 ∷ []

    of : (name : List ℕ) → IsLastName text name → ends_open text ≡ ends_open name
        → EndsOpen (folder_text text)
    of [] (none, inl e) ends = inl (ap text_if ends ∙ e)
    of [] (none, inr (before, e)) ends = inr (before, ap text_if ends ∙ e)
    of (c ∷ n) (none, is) ends = inr (text, ap text_if (ends ∙ closed_name (c ∷ n) (λ e. (cc)) none))

module _ (code : List Instruction) (last : ReadsLast code) where
  -- a name at the end
  abbrev Named : Type 0
  Named = (c : ℕ) × (n : List ℕ) × HasNoSlash (c ∷ n) × (all_scalars (c ∷ n) ≡ true) × Accepts code 2 (c ∷ n)

  named : (s : List ℕ) → ends_open s ≡ false → all_scalars s ≡ true → Accepts code 0 s → Named
  named s shut all a = let (name, is) = last_of s in at name is (sym (last_open s name is) ∙ shut)
    where
      at : (name : List ℕ) → IsLastName s name → ends_open name ≡ false → Named
      at [] is e = absurd (true≢false e)
      at (c ∷ n) (none, inl e) shut = (
        c,
        n,
        none,
        subst (λ z. all_scalars z ≡ true) e all,
        (last [] (c ∷ n) none).0.0 (subst (Accepts code 0) e a),
      )
      at (c ∷ n) (none, inr (before, e)) shut = (
        c,
        n,
        none,
        scalar_rest 47 (c ∷ n)
            (scalars_after before (47 ∷ c ∷ n) (subst (λ z. all_scalars z ≡ true) e all)),
        (last before (c ∷ n) none).1.0 (subst (Accepts code 0) e a),
      )

  -- after a folder's text, too
  after_folder : (text name : List ℕ) → HasNoSlash name → Accepts code 2 name
      → Accepts code 0 (folder_text text ++ name)
  after_folder text name none a = elim (folder_parts text) [
    | inl e ↦ subst (λ z. Accepts code 0 (z ++ name)) (sym e) ((last [] name none).0.1 a)
    | inr (before, e) ↦ subst (λ z. Accepts code 0 (z ++ name)) (sym e)
        (subst (Accepts code 0) (sym (append_assoc before (47 ∷ []) name)) ((last before name none).1.1 a))
  ]

  pub last_below : (most : Option ℕ) (text : List ℕ) → all_scalars text ≡ true
      → GoesOn code most Path 0 ↔ AcceptsBelow code most text
  last_below most text scalars = (
    (λ (s, (all, h), a). below (allows_one most s h) (named s (path_closed most s h []) all a)),
    (λ (s, (path, h, e), all, a). path_of (allows_one most path h)
        (named s (ap ends_open e ∙ path_closed most path h (folder_text text)) all a)),
  ) where
    path_of : AtMost 1 most → Named → GoesOn code most Path 0
    path_of one (c, n, none, all, a) =
        (c ∷ n, (all, one_name most c n one none), (last [] (c ∷ n) none).0.1 a)

    below : AtMost 1 most → Named → AcceptsBelow code most text
    below one (c, n, none, all, a) = (
      folder_text text ++ c ∷ n,
      (c ∷ n, one_name most c n one none, refl),
      scalars_append (folder_text text) (c ∷ n) (folder_scalars text scalars) all,
      after_folder text (c ∷ n) none a,
    )
