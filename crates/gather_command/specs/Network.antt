-- The network of the records.
use Rattle.std.specs.Prelude.{◌≡◌, ℕ, Bool, true, false, List, ◌++◌, Option, Some, None, Result, Ok, Err, codes}
use Rattle.topology.specs.Network.{Network}
use Rattle.command_parts.specs.command_faults.FaultText.{fault_text}
use Rattle.command_parts.specs.command_faults.declared.fault.Fault.{Fault}
use Rattle.node_recorder.specs.Names.{network_name}

-- the path of its file: the one that is given, or the one in which the nodes keep it
abbrev pub network_path : List ℕ → Option (List ℕ) → List ℕ
network_path dir (Some file) = file
network_path dir None = network_name dir

-- the nodes kept no network in this file
abbrev pub none_kept_line : List ℕ → Fault → List ℕ
none_kept_line path fault =
    codes "no network is kept in " ++ (path ++ (codes " (" ++ (fault_text fault ++ codes "); give --network FILE")))

-- the network, by what its file gave: if that is none, a file that was given is at fault; if no file was given,
-- none was kept
abbrev pub network_by : {E : Type 0} → (E → Fault) → Bool → Result Network E → Result (Option Network) Fault
network_by fault_of given (Ok net) = Ok (Some net)
network_by fault_of true (Err why) = Err (fault_of why)
network_by fault_of false (Err why) = Ok None

-- the answer by whatever the file gave
abbrev pub IsNetworkBy : {E : Type 0} → (E → Fault) → Bool → Result (Option Network) Fault → Type 0
IsNetworkBy {E = E} fault_of given answer = (read : Result Network E) × (answer ≡ network_by fault_of given read)
