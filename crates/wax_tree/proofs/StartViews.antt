-- What a plain walk took, by where it began.
use Rattle.std.proofs.Common.{◌≡◌, ◌∙◌, ℕ, false, List, inl, inr, refl, subst, sym}
use Rattle.wax_directory.specs.{History.Answer, Law.Law}
use Rattle.wax_walk.proofs.{Following.lacks_ruled, Seen.seen_itself, TakenAs.took_as}
use Rattle.wax_walk.specs.{Candidates.Candidate, Collected.{NoMemoryError, Took, TookCourse}}
use Rattle.wax_walk.specs.{Course.{Ahead, all_ahead}, Forest.Pending, Given.{Given, Mark}, Ruled.ruled_view}
use Rattle.wax_walk.specs.View.{WalkView}
use Rattle.wax_tree.specs.Begins.{Begins, OnlyLacks, StartTakes, scope_in, start_view}
use Rattle.wax_tree.specs.declared.steps.DepthRange.{DepthRange}
use Rattle.wax_tree.proofs.Answered.{lacks_given}

module _ {D C : Type 0} (law : Law D C) (d : D) (start : List ℕ) (range : DepthRange) (v : WalkView D)
    (b : Begins law d start range v) where
  comes_of : (p : Pending Given) → (start_view law d start range).to_come p → v.to_come p
  comes_of p h = subst v.to_come (sym h.4) (b.shown h.0 h.1 h.2 h.3)

  takes_of : (a : Ahead) → v.may_come a → StartTakes (scope_in range) start (all_ahead a)
  takes_of a i = b.takes (all_ahead a) (a, i, refl)

  -- unless allocation failed, the entry at the start was still to come
  begun_of : (u : WalkView D) (told : List Answer) (xs : List Given) → u.to_begin ≡ v.to_begin
      → (OnlyLacks v → OnlyLacks u) → TookCourse u told xs → NoMemoryError xs → u.to_begin ≡ 1
  begun_of u told xs same lacks course n = elim b.begun [
    | inl e ↦ same ∙ e
    | inr e ↦ elim e.2 [
      | inl nowhere ↦ absurd nowhere
      | inr l ↦ absurd (lacks_given u told xs (lacks l) course n)
    ]
  ]

  pub took_start : (new : D) (xs : List Given) → Took law v new xs
      → Took law (start_view law d start range) new xs
  took_start new xs took = took_as law (start_view law d start range) v new xs (record {
    to_come = comes_of;
    may_come = takes_of;
    directory = b.directory;
    listings_left = b.listings;
    names_left = b.names;
    to_begin = λ n. begun_of v took.told xs refl (λ l. l) took.course n;
    listings_open = b.none_listed;
    to_open = b.none_to_open;
    may_open = b.may_open;
    yields_from = b.yields_from;
    may_fail = λ path depth f. elim f [
      | inl i ↦ inl (b.fails.at path depth i)
      | inr i ↦ absurd (b.fails.below path depth i)
    ];
    idles = λ i. absurd i;
  }) took

  -- and a walk that a rule filters
  pub took_ruled : (rule : Candidate → Mark) (new : D) (xs : List Given)
      → Took law (ruled_view v rule false) new xs
      → Took law (ruled_view (start_view law d start range) rule false) new xs
  took_ruled rule new xs took =
      let seen = seen_itself (ruled_view v rule false) in
      took_as law (ruled_view (start_view law d start range) rule false) (ruled_view v rule false) new xs
      (record {
        to_come = λ q h. (h.0, (h.1.0, comes_of h.1.0 h.1.1, h.1.2));
        may_come = λ a i. (i.0, takes_of i.0 i.1, i.2, i.3);
        directory = b.directory;
        listings_left = b.listings;
        names_left = b.names;
        to_begin = λ n. begun_of (ruled_view v rule false) took.told xs refl
            (λ l. lacks_ruled v (ruled_view v rule false) rule seen l) took.course n;
        listings_open = b.none_listed;
        to_open = b.none_to_open;
        may_open = b.may_open;
        yields_from = b.yields_from;
        may_fail = λ path depth f. elim f [
          | inl i ↦ inl (b.fails.at path depth i)
          | inr i ↦ absurd (b.fails.below path depth i.1)
        ];
        idles = λ i. elim i [ inl e ↦ inl e | inr e ↦ absurd e ];
      }) took
