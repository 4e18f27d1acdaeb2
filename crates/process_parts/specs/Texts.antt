-- What a node's process, and the process that keeps nodes running, say if they do not run.
use Rattle.std.specs.Prelude.{ℕ, List, ◌++◌, codes, decimal}
use Rattle.network_file.specs.FaultText.{network_fault_text}
use Rattle.process_parts.specs.declared.fault.NodeFault.{NodeFault}
use Rattle.process_parts.specs.declared.fault.NodeFault.TheVariants.{Network, NoNode, LongName}
use Rattle.process_parts.specs.declared.fault.NodeFault.TheVariants.{Folder, RightsStay, Lock, Running, Links}
use Rattle.process_parts.specs.declared.fault.NodeFault.TheVariants.{Clients, Looks, System, Input, Memory}
use Rattle.process_parts.specs.declared.fault.NodeFault.TheVariants.{UpLock, UpRunning}
use Rattle.process_parts.specs.declared.fault.NodeFault.TheVariants.{Displaced, StopStays, NoneStays}

-- why a node does not run: which file, and what to do
abbrev pub refusal_text : List ℕ → List ℕ → ℕ → NodeFault → List ℕ
refusal_text file dir id (Network fault) = network_fault_text fault
refusal_text file dir id (NoNode nodes) =
    codes "no node " ++ (decimal id ++ (codes " is in " ++ (file ++ (codes ": its "
    ++ (decimal nodes ++ codes " nodes are numbered from 0")))))
refusal_text file dir id LongName =
    dir ++ codes ": a socket there has a name of more than 107 bytes; choose a shorter DIR"
refusal_text file dir id Folder =
    dir ++ codes ": cannot be made; make this folder, or choose another DIR"
refusal_text file dir id RightsStay =
    dir ++ codes ": its rights cannot be set; choose a DIR that is yours"
refusal_text file dir id Lock =
    dir ++ (codes "/lock-" ++ (decimal id
    ++ codes ": cannot be opened; choose a DIR that is yours"))
refusal_text file dir id Running =
    dir ++ (codes "/lock-" ++ (decimal id ++ (codes ": node " ++ (decimal id
    ++ codes " runs there already; stop it, or choose another DIR"))))
refusal_text file dir id UpLock =
    dir ++ codes "/lock-up: cannot be opened; choose a DIR that is yours"
refusal_text file dir id UpRunning =
    dir ++ codes "/lock-up: another up runs there already; stop it, or choose another DIR"
refusal_text file dir id Links =
    dir ++ (codes "/node-" ++ (decimal id ++ codes ".sock: cannot be made; choose another DIR"))
refusal_text file dir id Clients =
    dir ++ (codes "/desk-" ++ (decimal id ++ codes ".sock: cannot be made; choose another DIR"))
refusal_text file dir id Looks =
    dir ++ (codes "/look-" ++ (decimal id ++ codes ".sock: cannot be made; choose another DIR"))
refusal_text file dir id System =
    codes "the system has no clock, poll or process to give; try again"
refusal_text file dir id Input =
    codes "standard input is a file or nothing; give a pipe or a terminal"
refusal_text file dir id Memory = codes "out of memory"
refusal_text file dir id Displaced =
    dir ++ (codes "/lock-" ++ (decimal id
    ++ codes ": is another file now, or gone; the node ends, start it again"))
refusal_text file dir id StopStays =
    dir ++ (codes "/stop-" ++ (decimal id
    ++ codes ": cannot be removed; remove it, and start the node again"))
refusal_text file dir id NoneStays =
    dir ++ codes ": no node stays up there; see what each said, and start up again"
