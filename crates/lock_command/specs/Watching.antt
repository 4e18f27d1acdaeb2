-- How standard input is watched.
use Rattle.std.specs.Prelude.{◌≡◌, ◌⊎◌, Bool, true, false}
use Rattle.lock_command.specs.declared.waiter.InputWatch.{InputWatch}
use Rattle.lock_command.specs.declared.waiter.InputWatch.TheVariants.{Not, Waiting, Ready, Always}

-- it has something to read, or has ended: the system said so, or it cannot be waited for
abbrev pub has_input : InputWatch → Bool
has_input Not = false
has_input Waiting = false
has_input Ready = true
has_input Always = true

-- from now on the system says when it has something to read; or it cannot be waited for
abbrev pub IsWatched : InputWatch → Type 0
IsWatched watch = (watch ≡ Waiting) ⊎ (watch ≡ Always)

-- after the system said that there is something, it is asked again; else nothing changes
abbrev pub IsTaken : InputWatch → InputWatch → Type 0
IsTaken Ready new = IsWatched new
IsTaken old new = new ≡ old

-- during a wait the system may say that there is something to read
abbrev pub IsAwaited : InputWatch → InputWatch → Type 0
IsAwaited Waiting new = (new ≡ Waiting) ⊎ (new ≡ Ready)
IsAwaited old new = new ≡ old
