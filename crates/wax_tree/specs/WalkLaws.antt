-- Proofs of the laws of the plain walk.
use Rattle.std.proofs.Common.{◌≡◌, ◌≤◌, refl, sym, ap, subst, ◌∙◌, arith, inl, inr}
use Rattle.std.specs.Prelude.{Option, Some, None, Bool, true, false, cond}
use Rattle.wax_tree.specs.{declared.steps.StartPoint.StartPoint, declared.steps.Steps.Steps}
use Rattle.wax_tree.specs.declared.walk_tree.WalkTree.{WalkTree}
use Rattle.wax_tree.specs.Lacking.{AheadUnlessLacking, MayCome, lacks, goes, tree_view, gives_at_most}
use Rattle.wax_tree.specs.Walking.{AheadUnless, EnteredComes, GoesAhead, HasStopped, IsAlone, MayBeAhead}
use Rattle.wax_tree.specs.Walking.{PlainToCome, entering_after, scope_of}
use Rattle.wax_directory.specs.{Law.Law, Shown.a_sealed}
use Rattle.wax_walk.specs.Course.{Ahead, IsStartOf, Course, IsNothing, ahead, stop, unknown}
use Rattle.wax_walk.specs.{Forest.{Pending, cancelled}, Given.Given, View.CancelStep}
use Rattle.wax_tree.specs.declared.location.Location as code

none_entered : (b : Bool) (f : Option StartPoint) → cond b 0 (entering_after f None) ≡ 0
none_entered true f = refl
none_entered false None = refl
none_entered false (Some place) = refl

module _ {D C : Type 0} where
  -- the walk after cancelling: the last yielded folder won't be entered
  abbrev pub uncancelled : WalkTree D C → WalkTree D C
  uncancelled w = record w { steps = record w.steps { entered = None } }

  pub cancel_once : (s t u : WalkTree D C) → t ≡ uncancelled s → u ≡ uncancelled t → u ≡ uncancelled s
  cancel_once s t u h k = k ∙ ap uncancelled h

  pub cancel_no_longer : (s t : WalkTree D C) → t ≡ uncancelled s → gives_at_most t ≤ gives_at_most s
  cancel_no_longer s t h = subst (λ (v : WalkTree D C). gives_at_most v ≤ gives_at_most s) (sym h)
      (omega arith)

  module _ (law : Law D C) where
    cancel_steps : (s : Steps D C) (p : Pending Given) → PlainToCome law s p
        → PlainToCome law (record s { entered = None }) (cancelled p)
    cancel_steps s p c = record {
      has = c.has;
      back = c.back;
      of_first = c.of_first;
      of_entered = 0;
      of_levels = c.of_levels;
      first = c.first;
      entered = (refl, refl);
      levels = c.levels;
      held = c.held;
      few = omega (arith, c.few);
      alone = alone s.first c.alone;
      told = c.told;
      opened = c.opened;
      ended = λ e. (refl, (c.ended e).1);
    } where
      alone : (o : _) → IsAlone o s.entered s.levels.items → IsAlone o None s.levels.items
      alone None h = tt
      alone (Some x) h = (refl, h.1)

    cancel_now : (s : WalkTree D C) (p : Pending Given) → MayCome law s p
        → MayCome law (uncancelled s) (cancelled p)
    cancel_now s p (lacks e t) = lacks e t
    cancel_now s p (goes e c) = goes e (cancel_steps s.steps p c)

    entered_some : (s : Steps D C) (f : Option StartPoint) (e : Option code.Location)
        → (c : Course) × EnteredComes (scope_of s) f e c
    entered_some s (Some place) e = (stop, refl)
    entered_some s None None = (stop, refl)
    entered_some s None (Some e) = (_, (a_sealed, tt, tt, refl))

    unentered : (s : Steps D C) (f : Option StartPoint) (c : Course)
        → EnteredComes (scope_of s) f None c → c ≡ stop
    unentered s (Some place) c h = h
    unentered s None c h = h

    drop_steps : (s : Steps D C) (b : Bool) (a c : Ahead)
        → AheadUnless b (GoesAhead (record s { entered = None }) c) c → IsStartOf a.below c.below
        → IsStartOf a.after c.after
        → IsNothing a.below × (o : Ahead) × AheadUnless b (GoesAhead s o) o × IsStartOf a.after o.after
    drop_steps s true a c h below after = (
      subst (IsStartOf a.below) (ap (λ (v : Ahead). v.below) h) below,
      ahead stop stop,
      refl,
      subst (IsStartOf a.after) (ap (λ (v : Ahead). v.after) h) after,
    )
    drop_steps s false a c h below after =
        let e = entered_some s s.first s.entered in (
          subst (IsStartOf a.below) (unentered s s.first c.below h.entered) below,
          ahead e.0 c.after,
          record { back = h.back; first = h.first; entered = e.1; levels = h.levels },
          after,
        )

    drops : (s : WalkTree D C) (b : Bool) (a : Ahead)
        → AheadUnlessLacking b (MayBeAhead (record s.steps { entered = None }) a) a
        → IsNothing a.below
        × AheadUnlessLacking b (MayBeAhead s.steps (ahead unknown a.after)) (ahead unknown a.after)
    drops s true a h = (h.0, (tt, h.1))
    drops s false a h =
        let d = drop_steps s.steps s.steps.has_ended a h.0 h.1 h.2 h.3 in
        (d.0, (d.1, d.2, tt, d.3))

    stopped_still : (s : Steps D C) → HasStopped s → HasStopped (record s { entered = None })
    stopped_still s e = elim e [ inl a ↦ inl a | inr b ↦ inr (b.0, refl, b.2) ]

    cancel_step : (s : WalkTree D C) → CancelStep (tree_view law s) (tree_view law (uncancelled s))
    cancel_step s = record {
      leaves_out = cancel_now s;
      drops = drops s s.lacks_memory;
      directory = refl;
      listings_left = refl;
      names_left = refl;
      to_begin = refl;
      listings_open = refl;
      to_open = none_entered s.steps.has_ended s.steps.first;
      may_open = refl;
      yields_from = refl;
      may_fail = λ path depth i. i;
      none_below = λ path depth i. i.3.begins;
      ends = λ e. (e.0, stopped_still s.steps e.1);
      idles = λ i. elim i [ inl failed ↦ inl failed | inr e ↦ inr (stopped_still s.steps e) ];
    }

    pub cancel_law : (s t : WalkTree D C) → t ≡ uncancelled s → CancelStep (tree_view law s) (tree_view law t)
    cancel_law s t h = subst (λ (v : WalkTree D C). CancelStep (tree_view law s) (tree_view law v)) (sym h)
        (cancel_step s)

    pub comes_told : (s : WalkTree D C) (p : Pending Given) → MayCome law s p
        → law.tells s.steps.directory p.listed
    comes_told s p (lacks e t) = t
    comes_told s p (goes e c) = c.told
