-- Who may use a node's folder and sockets, by the words of `node` and `up`.
use Rattle.std.specs.Prelude.{true, false, codes}
use Rattle.clap.specs.declared.parser.matches.Found.{Found}
use Rattle.command_grammar.specs.Given.{IsFlag}
use Rattle.process_parts.specs.declared.rights.Rights.{Rights}
use Rattle.process_parts.specs.declared.rights.Rights.TheVariants.{Usual, GroupLocks}

-- with `--group-locks` the group may take the lock; without it the rights are the usual ones
abbrev pub AreRightsOf : Found → Rights → Type 0
AreRightsOf found GroupLocks = IsFlag found (codes "group-locks") true
AreRightsOf found Usual = IsFlag found (codes "group-locks") false
