-- Flags that spread to the places that lead to them.
use Rattle.std.proofs.Common.{◌≡◌, ◌⊎◌, ℕ, ◌+◌, ◌-◌, ◌<◌, Option, Some, None, List, [], ◌∷◌, ◌++◌, length}
use Rattle.std.proofs.Common.{slice_get, Contains, inl, inr, refl, sym, ◌∙◌, subst, arith}
use Rattle.std.proofs.{lemmas.Bool.cases_eq, lemmas.List.length-append}
use Rattle.std.proofs.lemmas.List.Elements.{Contains-append_left, Contains-push, Contains-push_cases}
use Rattle.std.proofs.lemmas.Option.{slice_get_within}
use Rattle.wax_program.specs.{Onward.PlaceFlags, declared.instruction.Instruction.Instruction}
use Rattle.wax_program.specs.declared.instruction.Instruction.TheVariants.{Check, Repeat, Components, Fork}
use Rattle.wax_program.specs.declared.instruction.Instruction.TheVariants.{Jump, Back, End}
use Rattle.wax_program.specs.{declared.instruction.Test.Test, declared.onward.Ahead.Ahead}
use Rattle.wax_program.specs.declared.onward.Ahead.TheVariants.{Rest, Path, Below}
use Rattle.wax_program.specs.inner.Jumps.{IsJump, JumpsTo}
use Rattle.wax_program.specs.inner.Leads.{Gains, Holds, HoldsAfter, HoldsByOther, IsClosedAt, LeadsBy}
use Rattle.wax_program.specs.inner.Leads.{LeadsOn, earlier_flags, flag_count, onward_by_slash}
use Rattle.wax_program.specs.inner.Spreads.{AreSpread, AreSpreadFrom, HasFlagOf, HasReached, LeadsNear}
use Rattle.wax_program.specs.inner.Spreads.{Spreads}
use Rattle.wax_program.proofs.{Jumping.some_is, Marking.{gains_both, gains_none}}

-- ---- more flags lead to more
module _ (o : Option PlaceFlags) (f g : PlaceFlags)
    (keeps : (m : Ahead) (k : ℕ) → Holds f m k → Holds g m k) where
  after_mono : (m : Option Ahead) (k : ℕ) → HoldsAfter f m k → HoldsAfter g m k
  after_mono None k h = absurd h
  after_mono (Some m) k h = keeps m k h

  earlier_mono : (e : Option PlaceFlags) (k : ℕ) → Holds (earlier_flags e f) Rest k
      → Holds (earlier_flags e g) Rest k
  earlier_mono None k h = keeps Rest k h
  earlier_mono (Some e) k h = h

  other_mono : (m : Ahead) (k : ℕ) → HoldsByOther o f m k → HoldsByOther o g m k
  other_mono Rest k h = keeps Rest k h
  other_mono Path k h = earlier_mono o k h
  other_mono Below k h = absurd h

  by_mono : (t : Test) (m : Ahead) (k : ℕ) → LeadsBy t o f m k → LeadsBy t o g m k
  by_mono t m k (inl (takes, h)) = inl (takes, other_mono m k h)
  by_mono t m k (inr (passes, h)) = inr (passes, after_mono (onward_by_slash m) k h)

  pub leads_mono : (i : Instruction) (m : Ahead) (k : ℕ) → LeadsOn i o f m k → LeadsOn i o g m k
  leads_mono (Check t) m k h = by_mono t m (k + 1) h
  leads_mono (Repeat t) m k (inl h) = inl (keeps m (k + 1) h)
  leads_mono (Repeat t) m k (inr h) = inr (by_mono t m k h)
  leads_mono Components m k (inl h) = inl (other_mono m k h)
  leads_mono Components m k (inr (inl h)) = inr (inl (after_mono (onward_by_slash m) k h))
  leads_mono Components m k (inr (inr h)) = inr (inr (after_mono (onward_by_slash m) (k + 1) h))
  leads_mono (Fork n) m k (inl h) = inl (keeps m (k + 1) h)
  leads_mono (Fork n) m k (inr h) = inr (keeps m (k + 1 + n) h)
  leads_mono (Jump n) m k h = keeps m (k + 1 + n) h
  leads_mono (Back n) m k h = keeps m (k - n) h
  leads_mono (End low high) m k h = absurd h

-- ---- an instruction leads by flags that are near, or by those of the place that it jumps to
module _ (o : Option PlaceFlags) (f : PlaceFlags) where
  pub near_leads : (i : Instruction) (m : Ahead) (k : ℕ) → LeadsNear i o f m k → LeadsOn i o f m k
  near_leads (Check t) m k h = h
  near_leads (Repeat t) m k h = h
  near_leads Components m k h = h
  near_leads (Fork n) m k h = inl h
  near_leads (Jump n) m k h = absurd h
  near_leads (Back n) m k h = absurd h
  near_leads (End low high) m k h = absurd h

  pub jump_leads : (i : Instruction) (m : Ahead) (k p : ℕ) → JumpsTo i k p → Holds f m p → LeadsOn i o f m k
  jump_leads (Check t) m k p e h = absurd e
  jump_leads (Repeat t) m k p e h = absurd e
  jump_leads Components m k p e h = absurd e
  jump_leads (Fork n) m k p e h = inr (subst (Holds f m) e h)
  jump_leads (Jump n) m k p e h = subst (Holds f m) e h
  jump_leads (Back n) m k p e h = subst (Holds f m) e h
  jump_leads (End low high) m k p e h = absurd e

  pub leads_either : (i : Instruction) (m : Ahead) (k : ℕ) → LeadsOn i o f m k
      → LeadsNear i o f m k ⊎ ((p : ℕ) × JumpsTo i k p × Holds f m p)
  leads_either (Check t) m k h = inl h
  leads_either (Repeat t) m k h = inl h
  leads_either Components m k h = inl h
  leads_either (Fork n) m k (inl h) = inl h
  leads_either (Fork n) m k (inr h) = inr (k + 1 + n, refl, h)
  leads_either (Jump n) m k h = inr (k + 1 + n, refl, h)
  leads_either (Back n) m k h = inr (k - n, refl, h)
  leads_either (End low high) m k h = absurd h

-- ---- new flags are those of places that are due
module _ (o : Option PlaceFlags) (old new : PlaceFlags) (IsDue : ℕ → Type 0)
    (only : (m : Ahead) (k : ℕ) → Holds new m k → Holds old m k ⊎ IsDue k) where
  after_only : (m : Option Ahead) (k : ℕ) → HoldsAfter new m k → HoldsAfter old m k ⊎ IsDue k
  after_only None k h = absurd h
  after_only (Some m) k h = only m k h

  earlier_only : (e : Option PlaceFlags) (k : ℕ) → Holds (earlier_flags e new) Rest k
      → Holds (earlier_flags e old) Rest k ⊎ IsDue k
  earlier_only None k h = only Rest k h
  earlier_only (Some e) k h = inl h

  other_only : (m : Ahead) (k : ℕ) → HoldsByOther o new m k → HoldsByOther o old m k ⊎ IsDue k
  other_only Rest k h = only Rest k h
  other_only Path k h = earlier_only o k h
  other_only Below k h = absurd h

  by_only : (t : Test) (m : Ahead) (k : ℕ) → LeadsBy t o new m k → LeadsBy t o old m k ⊎ IsDue k
  by_only t m k (inl (takes, h)) =
      elim (other_only m k h) [ inl g ↦ inl (inl (takes, g)) | inr due ↦ inr due ]
  by_only t m k (inr (passes, h)) =
      elim (after_only (onward_by_slash m) k h) [ inl g ↦ inl (inr (passes, g)) | inr due ↦ inr due ]

  pub near_only : (i : Instruction) (m : Ahead) (k : ℕ) → LeadsNear i o new m k
      → LeadsNear i o old m k ⊎ (IsDue k ⊎ IsDue (k + 1))
  near_only (Check t) m k h = elim (by_only t m (k + 1) h) [ inl g ↦ inl g | inr due ↦ inr (inr due) ]
  near_only (Repeat t) m k (inl h) = elim (only m (k + 1) h) [ inl g ↦ inl (inl g) | inr due ↦ inr (inr due) ]
  near_only (Repeat t) m k (inr h) = elim (by_only t m k h) [ inl g ↦ inl (inr g) | inr due ↦ inr (inl due) ]
  near_only Components m k (inl h) = elim (other_only m k h) [ inl g ↦ inl (inl g) | inr due ↦ inr (inl due) ]
  near_only Components m k (inr (inl h)) =
      elim (after_only (onward_by_slash m) k h) [ inl g ↦ inl (inr (inl g)) | inr due ↦ inr (inl due) ]
  near_only Components m k (inr (inr h)) =
      elim (after_only (onward_by_slash m) (k + 1) h) [ inl g ↦ inl (inr (inr g)) | inr due ↦ inr (inr due) ]
  near_only (Fork n) m k h = elim (only m (k + 1) h) [ inl g ↦ inl g | inr due ↦ inr (inr due) ]
  near_only (Jump n) m k h = absurd h
  near_only (Back n) m k h = absurd h
  near_only (End low high) m k h = absurd h

pub length_zero : (xs : List ℕ) → length xs ≡ 0 → xs ≡ []
length_zero [] e = refl
length_zero (x ∷ xs) e = absurd (omega (arith, e))

pub none_due : (k : ℕ) → Contains [] k → ⊥
none_due k (x, lt, e) = omega (arith, lt)

-- ---- the flags of a program
module _ (code : List Instruction) (o : Option PlaceFlags) where
  -- each of the three flags in turn
  pub reached_thrice : (at : ℕ) (i : Instruction) (f₁ f₂ f₃ f₄ : PlaceFlags) → slice_get code at ≡ Some i
      → Gains code o f₁ f₂ → Gains code o f₂ f₃ → Gains code o f₃ f₄
      → (LeadsOn i o f₁ Rest at → Holds f₂ Rest at) → (LeadsOn i o f₂ Path at → Holds f₃ Path at)
      → (LeadsOn i o f₃ Below at → Holds f₄ Below at)
      → HasReached code o f₁ f₄ at
  reached_thrice at i f₁ f₂ f₃ f₄ is one two three rest path below = reached
    where
      as_read : (j : Instruction) → slice_get code at ≡ Some j → j ≡ i
      as_read j there = some_is j i (sym there ∙ is)

      reached : HasReached code o f₁ f₄ at
      reached Rest (j, there, leads) =
          let h = rest (subst (λ x. LeadsOn x o f₁ Rest at) (as_read j there) leads) in
          three.keeps Rest at (two.keeps Rest at h)
      reached Path (j, there, leads) =
          let h = subst (λ x. LeadsOn x o f₁ Path at) (as_read j there) leads in
          three.keeps Path at (path (leads_mono o f₁ f₂ one.keeps i Path at h))
      reached Below (j, there, leads) =
          let h = subst (λ x. LeadsOn x o f₁ Below at) (as_read j there) leads in
          below (leads_mono o f₂ f₃ two.keeps i Below at (leads_mono o f₁ f₂ one.keeps i Below at h))

  pub spreads_none : (f g : PlaceFlags) (due : List ℕ) → g ≡ f → Spreads code o f due g due
  spreads_none f g due e = subst (λ z. Spreads code o f due z due) (sym e) (record {
    gains = gains_none code o f f refl;
    keeps = λ k h. h;
    below = λ k h. inl h;
    only = λ m k h. inl h;
    paid = omega arith;
  })

  pub spreads_both : (f : PlaceFlags) (due : List ℕ) (g : PlaceFlags) (mid : List ℕ) (h : PlaceFlags)
      (last : List ℕ) → Spreads code o f due g mid → Spreads code o g mid h last → Spreads code o f due h last
  spreads_both f due g mid h last a b = record {
    gains = gains_both code o f g h a.gains b.gains;
    keeps = λ k is. b.keeps k (a.keeps k is);
    below = λ k is. elim (b.below k is) [ inl mid ↦ a.below k mid | inr lt ↦ inr lt ];
    only = λ m k is. elim (b.only m k is) [
      | inl there ↦ elim (a.only m k there) [ inl old ↦ inl old | inr d ↦ inr (b.keeps k d) ]
      | inr d ↦ inr d
    ];
    paid = omega (arith, a.paid, b.paid);
  }

  -- a flag was added to one place, which is due now
  pub spreads_one : (f g : PlaceFlags) (due : List ℕ) (at : ℕ) → at < length code → Gains code o f g
      → ((m : Ahead) (k : ℕ) → Holds g m k → Holds f m k ⊎ (k ≡ at)) → flag_count f < flag_count g
      → Spreads code o f due g (due ++ at ∷ [])
  spreads_one f g due at within gains here more = record {
    gains = gains;
    keeps = λ k h. Contains-append_left due (at ∷ []) k h;
    below = λ k h. elim (Contains-push_cases due at k h) [
      | inl old ↦ inl old
      | inr e ↦ inr (subst (λ x. x < length code) e within)
    ];
    only = λ m k h. elim (here m k h) [
      | inl old ↦ inl old
      | inr e ↦ inr (subst (Contains (due ++ at ∷ [])) (sym e) (Contains-push due at))
    ];
    paid = omega (arith, more, length-append due (at ∷ []));
  }

  -- what was due still is
  pub spread_still : (start : ℕ) (f g : PlaceFlags) (IsDue IsDue' : ℕ → Type 0)
      → ((k : ℕ) → IsDue k → IsDue' k) → ((m : Ahead) (k : ℕ) → Holds f m k → Holds g m k)
      → ((m : Ahead) (k : ℕ) → Holds g m k → Holds f m k ⊎ IsDue' k)
      → AreSpreadFrom code o start f IsDue → AreSpreadFrom code o start g IsDue'
  spread_still start f g IsDue IsDue' due keeps only spread = record {
    near = λ m k i le is leads. elim (near_only o f g IsDue' only i m k leads) [
      | inl old ↦ elim (spread.near m k i le is old) [
        | inl h ↦ inl (keeps m k h)
        | inr (inl d) ↦ inr (inl (due k d))
        | inr (inr d) ↦ inr (inr (due (k + 1) d))
      ]
      | inr d ↦ inr d
    ];
    jumps = λ m k p le jump h. elim (only m p h) [
      | inl old ↦ elim (spread.jumps m k p le jump old) [
        | inl there ↦ inl (keeps m k there)
        | inr d ↦ inr (due p d)
      ]
      | inr d ↦ inr d
    ];
  }

  -- one of the places that are due is taken
  pub spread_popped : (f : PlaceFlags) (due rest : List ℕ) (at : ℕ) → due ≡ rest ++ at ∷ []
      → AreSpread code o f (Contains due) → AreSpread code o f (λ k. Contains rest k ⊎ (k ≡ at))
  spread_popped f due rest at e spread =
      spread_still 0 f f (Contains due) (λ k. Contains rest k ⊎ (k ≡ at))
      (λ k d. elim (Contains-push_cases rest at k (subst (λ xs. Contains xs k) e d)) [
        | inl there ↦ inl there
        | inr same ↦ inr (sym same)
      ])
      (λ m k h. h) (λ m k h. inl h) spread

  -- a place has reached the flags to which its instruction led before others were added
  module _ (f g h : PlaceFlags) (IsDue : ℕ → Type 0) (at : ℕ) (reached : HasReached code o f g at)
      (keeps : (m : Ahead) (k : ℕ) → Holds g m k → Holds h m k)
      (only : (m : Ahead) (k : ℕ) → Holds h m k → Holds f m k ⊎ IsDue k) where
    pub reached_near : (m : Ahead) (i : Instruction) → slice_get code at ≡ Some i → LeadsNear i o h m at
        → Holds h m at ⊎ (IsDue at ⊎ IsDue (at + 1))
    reached_near m i is leads = elim (near_only o f h IsDue only i m at leads) [
      | inl old ↦ inl (keeps m at (reached m (i, is, near_leads o f i m at old)))
      | inr d ↦ inr d
    ]

    pub reached_jump : (m : Ahead) (p : ℕ) → IsJump code at p → Holds h m p → Holds h m at ⊎ IsDue p
    reached_jump m p (i, is, jump) there = elim (only m p there) [
      | inl old ↦ inl (keeps m at (reached m (i, is, jump_leads o f i m at p jump old)))
      | inr d ↦ inr d
    ]

  -- no place lies past the last instruction
  pub spread_past : (f : PlaceFlags) (IsDue : ℕ → Type 0) → AreSpreadFrom code o (length code) f IsDue
  spread_past f IsDue = record {
    near = λ m k i le is leads. absurd (omega (arith, le, slice_get_within code k i is));
    jumps = λ m k p le (i, is, jump) h. absurd (omega (arith, le, slice_get_within code k i is));
  }

  -- one more place
  pub spread_before : (at : ℕ) (f g : PlaceFlags) (due due' : List ℕ)
      → AreSpreadFrom code o (at + 1) f (Contains due) → Spreads code o f due g due'
      → HasReached code o f g at → AreSpreadFrom code o at g (Contains due')
  spread_before at f g due due' spread spreads reached = record {
    near = λ m k i le is leads. elim (cases_eq k at) [
      | inl e ↦ subst (λ x. Holds g m x ⊎ (Contains due' x ⊎ Contains due' (x + 1))) (sym e)
          (reached_near f g g (Contains due') at reached (λ m k h. h) spreads.only m i
          (subst (λ x. slice_get code x ≡ Some i) e is) (subst (LeadsNear i o g m) e leads))
      | inr ne ↦ later.near m k i (omega (arith, le, ne)) is leads
    ];
    jumps = λ m k p le jump h. elim (cases_eq k at) [
      | inl e ↦ subst (λ x. Holds g m x ⊎ Contains due' p) (sym e)
          (reached_jump f g g (Contains due') at reached (λ m k h. h) spreads.only m p
          (subst (λ x. IsJump code x p) e jump) h)
      | inr ne ↦ later.jumps m k p (omega (arith, le, ne)) jump h
    ];
  }
    where
      later : AreSpreadFrom code o (at + 1) g (Contains due')
      later = spread_still (at + 1) f g (Contains due) (Contains due') spreads.keeps spreads.gains.keeps
          spreads.only spread

  -- a place was due, and those that lead to it were settled: itself, the one before it, and the jumps
  module _ (at : ℕ) (f₁ f₂ f₃ f₄ : PlaceFlags) (due₁ due₂ due₃ due₄ : List ℕ)
      (one : Spreads code o f₁ due₁ f₂ due₂) (reached : HasReached code o f₁ f₂ at)
      (two : Spreads code o f₂ due₂ f₃ due₃)
      (reached_before : (k : ℕ) → k + 1 ≡ at → HasReached code o f₂ f₃ k)
      (three : Spreads code o f₃ due₃ f₄ due₄)
      (jumped : (m : Ahead) (j : ℕ) → IsJump code j at → Holds f₃ m at → Holds f₄ m j) where
    last_two : Spreads code o f₂ due₂ f₄ due₄
    last_two = spreads_both f₂ due₂ f₃ due₃ f₄ due₄ two three

    pub spreads_thrice : Spreads code o f₁ due₁ f₄ due₄
    spreads_thrice = spreads_both f₁ due₁ f₂ due₂ f₄ due₄ one last_two

    pub spread_on : AreSpread code o f₁ (λ k. Contains due₁ k ⊎ (k ≡ at))
        → AreSpread code o f₄ (Contains due₄)
    spread_on spread = record {
      near = λ m k i le is leads. elim (still.near m k i le is leads) [
        | inl h ↦ inl h
        | inr (inl (inl d)) ↦ inr (inl d)
        | inr (inl (inr e)) ↦ subst (λ x. Holds f₄ m x ⊎ (Contains due₄ x ⊎ Contains due₄ (x + 1))) (sym e)
            (reached_near f₁ f₂ f₄ (Contains due₄) at reached last_two.gains.keeps spreads_thrice.only m i
            (subst (λ x. slice_get code x ≡ Some i) e is) (subst (LeadsNear i o f₄ m) e leads))
        | inr (inr (inl d)) ↦ inr (inr d)
        | inr (inr (inr e)) ↦ reached_near f₂ f₃ f₄ (Contains due₄) k (reached_before k e) three.gains.keeps
            last_two.only m i is leads
      ];
      jumps = λ m k p le jump h. elim (still.jumps m k p le jump h) [
        | inl there ↦ inl there
        | inr (inl d) ↦ inr d
        | inr (inr e) ↦ elim (three.only m p h) [
          | inl old ↦ inl (jumped m k (subst (IsJump code k) e jump) (subst (Holds f₃ m) e old))
          | inr d ↦ inr d
        ]
      ];
    }
      where
        still : AreSpread code o f₄ (λ k. Contains due₄ k ⊎ (k ≡ at))
        still = spread_still 0 f₁ f₄ (λ k. Contains due₁ k ⊎ (k ≡ at)) (λ k. Contains due₄ k ⊎ (k ≡ at))
            (λ k d. elim d [ inl there ↦ inl (spreads_thrice.keeps k there) | inr e ↦ inr e ])
            spreads_thrice.gains.keeps
            (λ m k h. elim (spreads_thrice.only m k h) [ inl old ↦ inl old | inr d ↦ inr (inl d) ]) spread

  -- nothing is due
  pub spread_closed : (f : PlaceFlags) → AreSpread code o f (Contains []) → (k : ℕ) → IsClosedAt code o f k
  spread_closed f spread k m i is leads = elim (leads_either o f i m k leads) [
    | inl near ↦ elim (spread.near m k i (omega arith) is near) [
      | inl h ↦ h
      | inr (inl d) ↦ absurd (none_due k d)
      | inr (inr d) ↦ absurd (none_due (k + 1) d)
    ]
    | inr (p, jump, h) ↦ elim (spread.jumps m k p (omega arith) (i, is, jump) h) [
      | inl there ↦ there
      | inr d ↦ absurd (none_due p d)
    ]
  ]

-- ---- a jump that has each flag of the place that it leads to, or doesn't
pub has_each : (f : PlaceFlags) (k other : ℕ)
    → HasFlagOf f Rest k other × (HasFlagOf f Path k other × HasFlagOf f Below k other)
    → (m : Ahead) → HasFlagOf f m k other
has_each f k other (rest, (path, below)) Rest = rest
has_each f k other (rest, (path, below)) Path = path
has_each f k other (rest, (path, below)) Below = below

module _ (code : List Instruction) (o : Option PlaceFlags) (f g : PlaceFlags) (jump at : ℕ)
    (leads : IsJump code jump at) (reached : HasReached code o f g jump) where
  pub jump_reached : (m : Ahead) → Holds f m at → Holds g m jump
  jump_reached m h = let (i, is, to) = leads in reached m (i, is, jump_leads o f i m jump at to h)

  pub has_more : (HasFlagOf f Rest jump at × (HasFlagOf f Path jump at × HasFlagOf f Below jump at) → ⊥)
      → (g ≡ f) ⊎ (flag_count f < flag_count g) → flag_count f < flag_count g
  has_more lacks (inl same) =
      let has : (m : Ahead) → HasFlagOf f m jump at =
      λ m h. subst (λ z. Holds z m jump) same (jump_reached m h) in
      absurd (lacks (has Rest, (has Path, has Below)))
  has_more lacks (inr more) = more
