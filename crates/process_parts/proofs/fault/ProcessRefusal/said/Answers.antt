use Rattle.std.proofs.Common.{refl}
use Rattle.process_parts.proofs.fault.ProcessRefusal.said.Goals as goal

pub returns-in-Network : goal.returns-in-Network
returns-in-Network c = rw c.in-Network.is refl

pub returns-in-NoNode : goal.returns-in-NoNode
returns-in-NoNode c = rw c.in-NoNode.is refl

pub returns-in-LongName : goal.returns-in-LongName
returns-in-LongName c = rw c.in-LongName.is refl

pub returns-in-Folder : goal.returns-in-Folder
returns-in-Folder c = rw c.in-Folder.is refl

pub returns-in-RightsStay : goal.returns-in-RightsStay
returns-in-RightsStay c = rw c.in-RightsStay.is refl

pub returns-in-Lock : goal.returns-in-Lock
returns-in-Lock c = rw c.in-Lock.is refl

pub returns-in-Running : goal.returns-in-Running
returns-in-Running c = rw c.in-Running.is refl

pub returns-in-UpLock : goal.returns-in-UpLock
returns-in-UpLock c = rw c.in-UpLock.is refl

pub returns-in-UpRunning : goal.returns-in-UpRunning
returns-in-UpRunning c = rw c.in-UpRunning.is refl

pub returns-in-Links : goal.returns-in-Links
returns-in-Links c = rw c.in-Links.is refl

pub returns-in-Clients : goal.returns-in-Clients
returns-in-Clients c = rw c.in-Clients.is refl

pub returns-in-Looks : goal.returns-in-Looks
returns-in-Looks c = rw c.in-Looks.is refl

pub returns-in-System : goal.returns-in-System
returns-in-System c = rw c.in-System.is refl

pub returns-in-Input : goal.returns-in-Input
returns-in-Input c = rw c.in-Input.is refl

pub returns-in-Displaced : goal.returns-in-Displaced
returns-in-Displaced c = rw c.in-Displaced.is refl

pub returns-in-StopStays : goal.returns-in-StopStays
returns-in-StopStays c = rw c.in-StopStays.is refl

pub returns-in-NoneStays : goal.returns-in-NoneStays
returns-in-NoneStays c = rw c.in-NoneStays.is refl

pub returns-in-Memory : goal.returns-in-Memory
returns-in-Memory c = rw c.in-Memory.is refl
