-- What a directory counts of its calls.
use Rattle.std.specs.Prelude.{◌≡◌, ℕ, ◌+◌, ◌^◌, ◌-◌, min, max, cond, List, [], ◌∷◌, Option, Some, None}
use Rattle.std.specs.Prelude.{Result, Ok, Err, string_bytes}
use Rattle.wax_query.specs.declared.diagnostics.NoMemory.{NoMemory}
use Rattle.wax_directory.specs.{declared.directory.FileType.FileType, declared.directory.ListItem.ListItem}
use Rattle.wax_directory.specs.declared.directory.DirectoryFault.{DirectoryFault}
use Rattle.wax_directory.specs.declared.directory.DirectoryFault.TheVariants.{Failed, Memory}
use Rattle.wax_directory.specs.{declared.tally.Tally.Tally, Names.is_plain}
use Rattle.wax_directory.specs.declared.directory.FileType.TheVariants as F
use Rattle.wax_directory.specs.declared.directory.ListItem.TheVariants as I

abbrev pub no_counts : Tally
no_counts = record {
  misses = 0;
  leaves = 0;
  failures = 0;
  items = 0;
  bad_names = 0;
  opened = 0;
  ended = 0;
}

-- what a result of `kind` adds: a miss if nothing is there, a leaf for a file or a link, or a failure
abbrev pub kind_counts : Result (Option FileType) DirectoryFault → Tally
kind_counts (Ok None) = record no_counts { misses = 1 }
kind_counts (Ok (Some F.File)) = record no_counts { leaves = 1 }
kind_counts (Ok (Some F.Link)) = record no_counts { leaves = 1 }
kind_counts (Ok (Some F.Folder)) = no_counts
kind_counts (Err Failed) = record no_counts { failures = 1 }
kind_counts (Err Memory) = no_counts

-- what a result of `open` adds: a folder that can't be listed is at its end at once
abbrev pub opening_counts : {A : Type 0} → Result A DirectoryFault → Tally
opening_counts (Ok cursor) = record no_counts { opened = 1 }
opening_counts (Err Failed) = record no_counts { failures = 1; opened = 1; ended = 1 }
opening_counts (Err Memory) = no_counts

-- what an item adds
abbrev pub item_counts : ListItem → Tally
item_counts (I.Name name kind) =
    record no_counts { items = 1; bad_names = cond (is_plain (string_bytes name)) 0 1 }
item_counts I.Failed = record no_counts { items = 1; failures = 1 }
item_counts I.NotText = record no_counts { items = 1; failures = 1 }

-- what the end of a listing adds
abbrev pub end_counts : Tally
end_counts = record no_counts { ended = 1 }

-- what a result of `next` adds
abbrev pub next_counts : Result (Option ListItem) NoMemory → Tally
next_counts (Ok None) = end_counts
next_counts (Ok (Some x)) = item_counts x
next_counts (Err e) = no_counts

abbrev pub plus : Tally → Tally → Tally
plus n k = record {
  misses = n.misses + k.misses;
  leaves = n.leaves + k.leaves;
  failures = n.failures + k.failures;
  items = n.items + k.items;
  bad_names = n.bad_names + k.bad_names;
  opened = n.opened + k.opened;
  ended = n.ended + k.ended;
}

-- what these items add
abbrev pub items_counts : List ListItem → Tally
items_counts [] = no_counts
items_counts (x ∷ items) = plus (item_counts x) (items_counts items)

-- n added to a count, which stops at the greatest u64
abbrev pub grown : ℕ → ℕ → ℕ
grown n old = max old (min (old + n) (2 ^ 64 - 1))

abbrev pub after_counting : Tally → Tally → Tally
after_counting n old = record {
  misses = grown n.misses old.misses;
  leaves = grown n.leaves old.leaves;
  failures = grown n.failures old.failures;
  items = grown n.items old.items;
  bad_names = grown n.bad_names old.bad_names;
  opened = grown n.opened old.opened;
  ended = grown n.ended old.ended;
}

-- each count grew by that of n, up to the greatest u64
pub record Counts (n old new : Tally) : Type 0 where
  pub misses : new.misses ≡ grown n.misses old.misses
  pub leaves : new.leaves ≡ grown n.leaves old.leaves
  pub failures : new.failures ≡ grown n.failures old.failures
  pub items : new.items ≡ grown n.items old.items
  pub bad_names : new.bad_names ≡ grown n.bad_names old.bad_names
  pub opened : new.opened ≡ grown n.opened old.opened
  pub ended : new.ended ≡ grown n.ended old.ended
