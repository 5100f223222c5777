use Rattle.wax_components.proofs.profile.Profile.+power.Given as goal

abbrev pub decreases-power : goal.decreases-power
decreases-power l = l.copies
