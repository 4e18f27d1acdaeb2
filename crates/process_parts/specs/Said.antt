-- What is said of a fault, by its subject.
use Rattle.std.specs.Prelude.{ℕ, List, ◌++◌, decimal}
use Rattle.network_file.specs.FaultText.{network_fault_text}
use Rattle.process_parts.specs.declared.fault.NodeFault.TheVariants.{NoNode, Running}
use Rattle.process_parts.specs.declared.fault.Said.{Said}
use Rattle.process_parts.specs.declared.fault.Said.TheVariants.{OfNetwork, OfNoNode, OfNode, OfFolder, OfFile, OfSystem}
use Rattle.process_parts.specs.Texts.{refusal_text}

-- what is said of a folder or of a node's file follows its name
abbrev pub said_text : List ℕ → List ℕ → ℕ → Said → List ℕ
said_text file dir id (OfNetwork fault) = network_fault_text fault
said_text file dir id (OfNoNode nodes) = refusal_text file dir id (NoNode nodes)
said_text file dir id OfNode = refusal_text file dir id Running
said_text file dir id (OfFolder said) = dir ++ said.now
said_text file dir id (OfFile name said) = dir ++ (name.now ++ (decimal id ++ said.now))
said_text file dir id (OfSystem said) = said.now
