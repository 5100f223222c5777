-- Pairs that are followed by letters.
use Rattle.std.proofs.Common.{◌≡◌, ◌<◌, ◌↔◌, ℕ, zero, suc, List, [], ◌∷◌, ◌++◌, Some, length, slice_get, inl}
use Rattle.std.proofs.Common.{inr, refl, sym, ◌∙◌, ap, subst, arith}
use Rattle.wax_program.specs.{declared.instruction.Instruction.Instruction, Machine.Accepts, Threads.AnyAmong}
use Rattle.wax_compare.specs.{declared.pairs.StatePair.StatePair, declared.pairs.Reached.Reached}
use Rattle.wax_compare.specs.{declared.automaton.ProgramState.ProgramState, declared.search.Search.Search}
use Rattle.wax_compare.specs.{Cuts.StandsFor, declared.wanted.Criterion.Criterion}
use Rattle.wax_compare.specs.{declared.wanted.Texts.Texts, declared.wanted.Wanted.Wanted}
use Rattle.wax_compare.specs.Limit.{EndsSearch, IsAtPlaces}
use Rattle.wax_compare.specs.inner.Going.{Goes, GoesOnAmong, IsAllowed, Task, starts}
use Rattle.wax_compare.specs.inner.Automata.{BeginsAsProgram, StatesStay, state_places}
use Rattle.wax_compare.specs.inner.Reaching.{AreFollowed, AreReachedPairs, BeginAsPrograms, CameFrom, EndsBy}
use Rattle.wax_compare.specs.inner.Reaching.{GoesFrom, HasNext, IsFollowedBy, IsLedBy, IsPairStep, Readings}
use Rattle.wax_compare.specs.{inner.Searching.{IsSameSearch, KeepsBoth, readings}, inner.Visiting.IsVisited}
use Rattle.wax_states.specs.States.{LeadOn}

pub some_same : {x y : Reached} → Some x ≡ Some y → x ≡ y
some_same e = cc

pub get_append : (xs ys : List Reached) (t : ℕ) → t < length xs → slice_get (xs ++ ys) t ≡ slice_get xs t
get_append [] ys t h = absurd (omega (arith, h))
get_append (x ∷ xs) ys zero h = refl
get_append (x ∷ xs) ys (suc t) h = get_append xs ys t (omega (arith, h))

pub get_end : (xs : List Reached) (x : Reached) → slice_get (xs ++ x ∷ []) (length xs) ≡ Some x
get_end [] x = refl
get_end (y ∷ xs) x = get_end xs x

-- ---- automata that grew
pub record Later (r r' : Readings) : Type 0 where
  pub task : r'.task ≡ r.task
  pub firsts : StatesStay r.firsts r'.firsts
  pub seconds : StatesStay r.seconds r'.seconds

-- the pair is one of states
abbrev pub IsPlaced : Readings → StatePair → Type 0
IsPlaced r p = (p.first < length r.firsts) × (p.second < length r.seconds)

module _ (r r' : Readings) (later : Later r r') where
  module _ (p : StatePair) (placed : IsPlaced r p) where
    first_stays : state_places r'.firsts p.first ≡ state_places r.firsts p.first
    first_stays = (later.firsts p.first placed.0).1

    second_stays : state_places r'.seconds p.second ≡ state_places r.seconds p.second
    second_stays = (later.seconds p.second placed.1).1

    pub placed_later : IsPlaced r' p
    placed_later = ((later.firsts p.first placed.0).0, (later.seconds p.second placed.1).0)

    -- what holds of the places of both programs still does
    pub stays : (P : Task → List ℕ → List ℕ → Type 0)
        → P r.task (state_places r.firsts p.first) (state_places r.seconds p.second)
        → P r'.task (state_places r'.firsts p.first) (state_places r'.seconds p.second)
    stays P h = subst (λ t. P t (state_places r'.firsts p.first) (state_places r'.seconds p.second))
        (sym later.task)
        (subst (λ z. P r.task z (state_places r'.seconds p.second)) (sym first_stays)
        (subst (λ z. P r.task (state_places r.firsts p.first) z) (sym second_stays) h))

    pub stayed : (P : Task → List ℕ → List ℕ → Type 0)
        → P r'.task (state_places r'.firsts p.first) (state_places r'.seconds p.second)
        → P r.task (state_places r.firsts p.first) (state_places r.seconds p.second)
    stayed P h = subst (λ z. P r.task (state_places r.firsts p.first) z) second_stays
        (subst (λ z. P r.task z (state_places r'.seconds p.second)) first_stays
        (subst (λ t. P t (state_places r'.firsts p.first) (state_places r'.seconds p.second)) later.task h))

    pub goes_later : (s : List ℕ) → GoesFrom r p s → GoesFrom r' p s
    goes_later s h = stays (λ t places others. Goes t places others p.may_end s) h

    pub goes_before : (s : List ℕ) → GoesFrom r' p s → GoesFrom r p s
    goes_before s h = stayed (λ t places others. Goes t places others p.may_end s) h

    pub led_later : (text : List ℕ) → IsLedBy r text p → IsLedBy r' text p
    led_later text h = record {
      first = stays (λ t places others. IsAtPlaces t.code text places) h.first;
      second = stays (λ t places others. IsAtPlaces t.other text others) h.second;
      among = subst (λ t. (s : List ℕ) → GoesOnAmong t.texts (starts t.texts) (text ++ s)
          ↔ GoesOnAmong t.texts p.may_end s) (sym later.task) h.among;
    }

    pub ends_later : (c : ℕ) → EndsBy r p c → EndsBy r' p c
    ends_later c h = stays (λ t places others. EndsSearch t.wanted
        ((s : List ℕ) → AnyAmong t.code places (c ∷ s) → ⊥)
        ((s : List ℕ) → AnyAmong t.other others (c ∷ s) → ⊥)) h

  pub step_later : (p q : StatePair) → IsPlaced r p → IsPlaced r q → (c : ℕ) → IsPairStep r p c q
      → IsPairStep r' p c q
  step_later p q placed next c h = record {
    first = stays p placed (λ t places others. LeadOn t.code c places (state_places r'.firsts q.first))
        (subst (LeadOn r.task.code c (state_places r.firsts p.first)) (sym (first_stays q next)) h.first);
    second = stays p placed (λ t places others. LeadOn t.other c others (state_places r'.seconds q.second))
        (subst (LeadOn r.task.other c (state_places r.seconds p.second)) (sym (second_stays q next))
        h.second);
    among = subst (λ t. (s : List ℕ) → GoesOnAmong t.texts p.may_end (c ∷ s)
        ↔ GoesOnAmong t.texts q.may_end s) (sym later.task) h.among;
  }

  begins_later : (code : List Instruction) (old new : List ProgramState) → StatesStay old new
      → BeginsAsProgram code old → BeginsAsProgram code new
  begins_later code old new keeps b = record {
    some = (keeps 0 b.some).0;
    accepts = λ s. subst (λ z. Accepts code 0 s ↔ AnyAmong code z s) (sym (keeps 0 b.some).1) (b.accepts s);
  }

  pub begin_later : BeginAsPrograms r → BeginAsPrograms r'
  begin_later b = record {
    first = subst (λ t. BeginsAsProgram t.code r'.firsts) (sym later.task)
        (begins_later r.task.code r.firsts r'.firsts later.firsts b.first);
    second = subst (λ t. BeginsAsProgram t.other r'.seconds) (sym later.task)
        (begins_later r.task.other r.seconds r'.seconds later.seconds b.second);
  }

  module _ (reached : List Reached) (pairs : AreReachedPairs r reached) where
    next_later : (i c : ℕ) (x : Reached) → slice_get reached i ≡ Some x → HasNext r reached x c
        → HasNext r' reached x c
    next_later i c x is h = record {
      at = h.at;
      next = h.next;
      is = h.is;
      near = h.near;
      step = step_later x.pair h.next.pair (pairs.placed i x is) (pairs.placed h.at h.next h.is) c h.step;
    }

    by_later : (i c : ℕ) (x : Reached) → slice_get reached i ≡ Some x → IsFollowedBy r reached x c
        → IsFollowedBy r' reached x c
    by_later i c x is f may =
        elim (f (subst (λ t. IsAllowed t.texts x.pair.may_end c) later.task may)) [
          | inl ends ↦ inl (ends_later x.pair (pairs.placed i x is) c ends)
          | inr next ↦ inr (next_later i c x is next)
        ]

    pub followed_later : (done : ℕ) → AreFollowed r reached done → AreFollowed r' reached done
    followed_later done f i c x lt is scalar = by_later i c x is (f i c x lt is scalar)

    pub visited_later : (at letter : ℕ) → IsVisited r reached at letter → IsVisited r' reached at letter
    visited_later at letter v c x is stands = by_later at c x is
        (v c x is (subst (λ t. StandsFor t.code t.other letter c) later.task stands))

    came_later : (i : ℕ) (x : Reached) → slice_get reached i ≡ Some x → CameFrom r reached x i
        → CameFrom r' reached x i
    came_later i x is came = record {
      from = came.from;
      is = came.is;
      earlier = came.earlier;
      scalar = came.scalar;
      deeper = came.deeper;
      step = step_later came.from.pair x.pair (pairs.placed x.before came.from came.is) (pairs.placed i x is)
          x.letter came.step;
    }

    pub pairs_later : AreReachedPairs r' reached
    pairs_later = record {
      placed = λ i x is. placed_later x.pair (pairs.placed i x is);
      led = λ i x is. (let led = pairs.led i x is in
          (led.0, led.1, led_later x.pair (pairs.placed i x is) led.0 led.2));
      differ = pairs.differ;
      beginning = λ x is. (let b = pairs.beginning x is in
          (b.0, b.1, b.2 ∙ ap (λ t. starts t.texts) (sym later.task), b.3));
      some = pairs.some;
      came = λ i x lt is. came_later i x is (pairs.came i x lt is);
      none = λ i x is h. pairs.none i x is (goes_before x.pair (pairs.placed i x is) [] h);
      low = pairs.low;
      rises = pairs.rises;
    }

-- ---- a search whose automata grew
abbrev task_of : List Instruction → List Instruction → Criterion → Criterion → Wanted → Texts → Task
task_of code other criterion other_criterion wanted texts = record {
  code = code;
  other = other;
  criterion = criterion;
  other_criterion = other_criterion;
  wanted = wanted;
  texts = texts;
}

pub search_later : (code other : List Instruction) (old new : Search)
    → IsSameSearch old new → KeepsBoth old new → Later (readings code other old) (readings code other new)
search_later code other old new same keeps = record {
  task = ap (λ w. task_of code other new.first.criterion new.second.criterion w new.texts) same.wanted
      ∙ ap (λ t. task_of code other new.first.criterion new.second.criterion old.wanted t) same.texts
      ∙ ap (λ v. task_of code other v new.second.criterion old.wanted old.texts) same.first_criterion
      ∙ ap (λ v. task_of code other old.first.criterion v old.wanted old.texts) same.second_criterion;
  firsts = keeps.firsts;
  seconds = keeps.seconds;
}
