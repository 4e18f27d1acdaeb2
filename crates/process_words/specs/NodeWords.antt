-- What the words of `node` and `up` ask for.
use Rattle.std.specs.Prelude.{◌≡◌, ◌⊎◌, ℕ, Option, Some, codes}
use Rattle.clap.specs.Matches.{first_value}
use Rattle.clap.specs.declared.parser.matches.Found.{Found}
use Rattle.command_grammar.specs.Given.{IsFlag, IsGiven, IsRefused}
use Rattle.node_log.specs.declared.event.Level.{Level}
use Rattle.pace.specs.declared.pace.Manner.{Manner}
use Rattle.process_parts.specs.declared.record_size.RecordSize.{RecordSize}
use Rattle.process_parts.specs.declared.rights.Rights.{Rights}
use Rattle.process_parts.specs.declared.words.NodeWords.{NodeWords}
use Rattle.process_parts.specs.declared.words.UpWords.{UpWords}
use Rattle.process_words.specs.GivenRights.{AreRightsOf}
use Rattle.process_words.specs.LogAndRecord.{IsLogOf, IsSizeOf}
use Rattle.process_words.specs.Manner.{IsMannerOf, IsMannerRefused, IsLimitOf, IsLimitRefused}
use Rattle.command_words.specs.Refused.{IsIdRefused, IsMissing}
use Rattle.command_words.specs.declared.refusal.Refusal.{Refusal}
use Rattle.command_words.specs.declared.refusal.Refusal.TheVariants.{Word, Time}

-- what the options that `node` and `up` share say: the pace of a node, and after how long a turn is late; who may use its
-- sockets; its log and its record
abbrev pub AreOptionsOf : Found → Manner → ℕ → Rights → Option Level → Option RecordSize → Type 0
AreOptionsOf found manner turn rights log record_size =
    IsMannerOf found manner
    × IsLimitOf found turn
    × AreRightsOf found rights
    × IsLogOf found log
    × IsSizeOf found record_size

-- the network file, the node and the folder; those options; and whether `up` started it
abbrev pub IsNodeOf : Found → NodeWords → Type 0
IsNodeOf found words =
    (first_value found (codes "FILE") ≡ Some words.file.now)
    × IsGiven found (codes "ID") 0 65535 (Some words.id)
    × (first_value found (codes "DIR") ≡ Some words.dir.now)
    × AreOptionsOf found words.manner words.turn words.rights words.log words.record_size
    × IsFlag found (codes "child") words.is_child

-- the network file and the folder, and those options, for each node
abbrev pub IsUpOf : Found → UpWords → Type 0
IsUpOf found words =
    (first_value found (codes "FILE") ≡ Some words.file.now)
    × (first_value found (codes "DIR") ≡ Some words.dir.now)
    × AreOptionsOf found words.manner words.turn words.rights words.log words.record_size

-- the word of an option that `node` and `up` share spells no number, or no time, in its range
abbrev pub IsOptionRefused : Found → Refusal → Type 0
IsOptionRefused found (Word fault) =
    IsMannerRefused found fault
    ⊎ (IsRefused found (codes "log") 4 6 fault ⊎ IsRefused found (codes "record-size") 65536 1073741824 fault)
IsOptionRefused found (Time fault) = IsLimitRefused found fault
IsOptionRefused found _ = ⊥

-- one of the words of `up` is missing or invalid
abbrev pub AreUpWordsRefused : Found → Refusal → Type 0
AreUpWordsRefused found refusal =
    IsMissing found (codes "FILE") refusal ⊎ (IsMissing found (codes "DIR") refusal ⊎ IsOptionRefused found refusal)

-- the word of ID is no number up to 65535, or another word of `node` is missing or invalid
abbrev pub AreNodeWordsRefused : Found → Refusal → Type 0
AreNodeWordsRefused found refusal = IsIdRefused found refusal ⊎ AreUpWordsRefused found refusal
