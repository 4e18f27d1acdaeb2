-- Small examples of the fault of a command whose text standard output does not take, and some that are none.
use Rattle.std.proofs.Common.{◌≡◌, ◌≢◌, ℕ, None, Some, Result, Ok, Err, codes, refl, inl, inr, arith}
use Rattle.std.specs.declared.io.Error.{Error}
use Rattle.std.specs.declared.io.ErrorKind.TheVariants.{BrokenPipe, StorageFull}
use Rattle.command_faults.specs.declared.fault.Fault.TheVariants.{Closed, EventsUnwritable, Memory, Output}
use Rattle.command_faults.specs.FaultText.{fault_text}
use Rattle.command_faults.specs.Output.{first_error, kept_fault, refused_for, IsKeptAs, IsUntaken, KeepsFirst}

-- a pipe without a reader, and a full disk
knows-closed : refused_for BrokenPipe ≡ Closed
knows-closed = refl

knows-full : refused_for StorageFull ≡ Output
knows-full = refl

knows_not-full : refused_for StorageFull ≢ Closed
knows_not-full e = grind (arith, e)

says-closed : fault_text Closed ≡ codes "nobody reads standard output"
says-closed = refl

untaken-closed : IsUntaken Closed
untaken-closed = inr refl

-- a file is another thing
untaken_not-file : ¬ IsUntaken EventsUnwritable
untaken_not-file (inl e) = grind (arith, e)
untaken_not-file (inr e) = grind (arith, e)

abbrev done : Result ℕ ℕ
done = Ok 0

abbrev failed : Result ℕ ℕ
failed = Err 0

module _ (first next : Error) where
  -- what the system says of a later write is not asked for
  keeps-first : first_error (Some first) next ≡ Some first
  keeps-first = refl

  keeps-one : first_error None next ≡ Some next
  keeps-one = refl

  keeps_not-none : first_error None next ≢ None
  keeps_not-none e = grind (arith, e)

  -- a call that failed again leaves the first error, and one that succeeded loses none
  keeps-failed : KeepsFirst failed (Some first) (Some first)
  keeps-failed = (next, refl)

  keeps_not-lost : ¬ KeepsFirst failed (Some first) None
  keeps_not-lost h = grind (arith, h.1)

  keeps_not-made_up : ¬ KeepsFirst done None (Some first)
  keeps_not-made_up h = grind (arith, h)

  -- memory that ran out stays that, whatever was written
  kept-memory : kept_fault Memory (Some first) ≡ Memory
  kept-memory = refl

-- without an error nothing is known of the reader
kept-unknown : kept_fault Output None ≡ Output
kept-unknown = refl

kept_not-unknown : kept_fault Output None ≢ Closed
kept_not-unknown e = grind (arith, e)

said-closed : IsKeptAs Output Closed
said-closed = inr refl

-- no other fault becomes one of the output
said_not-memory : ¬ IsKeptAs Memory Closed
said_not-memory e = grind (arith, e)
