use Rattle.leb128.proofs.reading.+number_in.Given as goal

abbrev pub decreases-number_in : goal.decreases-number_in
decreases-number_in l = l.more
