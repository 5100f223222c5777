-- The call that a directory singles out.
use Rattle.std.specs.Prelude.{ℕ, suc, Option, Some, None, if◌then◌else◌}
use Rattle.wax_directory.specs.{declared.turn.Turn.Turn, declared.failing.Failing.Failing}
use Rattle.wax_directory.specs.declared.starving.Starving.{Starving}

-- how many calls are forwarded before the singled-out one; `None` after that
abbrev pub calls_left : Turn → Option ℕ
calls_left t = if t.is_over then None else Some t.calls

-- how many are left after one more call
abbrev pub after_call : Option ℕ → Option ℕ
after_call (Some (suc n)) = Some n
after_call k = None

abbrev pub fails_after : {D : Type 0} → Failing D → Option ℕ
fails_after d = calls_left d.turn

abbrev pub starves_after : {D : Type 0} → Starving D → Option ℕ
starves_after d = calls_left d.turn

-- the directory to which calls are forwarded
abbrev pub failing_inside : {D : Type 0} → Failing D → D
failing_inside d = d.directory

abbrev pub starving_inside : {D : Type 0} → Starving D → D
starving_inside d = d.directory
