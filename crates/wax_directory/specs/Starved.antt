-- The law of a directory that runs out of memory once: that of the directory inside.
use Rattle.wax_directory.specs.{declared.starving.Starving.Starving, Law.Law}

abbrev pub starved_law : {D C : Type 0} → Law D C → Law (Starving D) C
starved_law law = record {
  shows = λ s. law.shows s.directory;
  holds = λ s. law.holds s.directory;
  tells = λ s. law.tells s.directory;
  tally = λ s. law.tally s.directory;
  answered = λ s. law.answered s.directory;
}
