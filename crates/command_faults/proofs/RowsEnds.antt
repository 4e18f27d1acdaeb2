-- Small examples of the statuses of commands that are done, and some that they may not have.
use Rattle.std.proofs.Common.{◌≡◌, ℕ, Result, Ok, Err, refl, inl, inr, arith}
use Rattle.std.specs.declared.process.ExitCode.{ExitCode}
use Rattle.command_faults.specs.declared.fault.Fault.{Fault}
use Rattle.command_faults.specs.declared.fault.Fault.TheVariants.{Memory}
use Rattle.command_faults.specs.Ends.{DoneMeansZero, DoneMeansZeroOr}

abbrev ended : ℕ → Result ExitCode Fault
ended status = Ok (record { status = status })

done-zero : DoneMeansZero (ended 0)
done-zero = refl

done_not-one : ¬ DoneMeansZero (ended 1)
done_not-one e = grind (arith, e)

abbrev failed : Result ExitCode Fault
failed = Err Memory

-- of a command that failed it says nothing
failed-any : DoneMeansZero failed
failed-any = tt

-- some lines were refused
done_or-three : DoneMeansZeroOr 3 (ended 3)
done_or-three = inr refl

done_or-zero : DoneMeansZeroOr 3 (ended 0)
done_or-zero = inl refl

done_or_not-one : ¬ DoneMeansZeroOr 3 (ended 1)
done_or_not-one (inl e) = grind (arith, e)
done_or_not-one (inr e) = grind (arith, e)
