use Rattle.thread_net.proofs.threads.run_one.Goals as goal

pub returns : goal.returns
returns g c = c.run.ensures
