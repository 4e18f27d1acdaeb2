-- The lines on standard error.
use Rattle.std.specs.Prelude.{ℕ, List, ◌++◌, codes, decimal}
use Rattle.network_file.specs.FaultText.{network_fault_text}
use Rattle.status_command.specs.declared.notice.StatusNotice.{StatusNotice}
use Rattle.status_command.specs.declared.notice.StatusNotice.TheVariants.{NoFolder, Forbidden, NoSockets}
use Rattle.status_command.specs.declared.notice.StatusNotice.TheVariants.{NeverWas, OtherNetwork, NoNetwork, NoInterval, System, Memory, Output, Closed}

-- that a node never ran in a folder
abbrev pub never_ran_text : List ℕ → ℕ → List ℕ
never_ran_text folder node =
    codes "node " ++ (decimal node ++ (codes " never ran in " ++ (folder
    ++ codes ", which has neither a socket nor a state of it")))

-- that a folder has a node that is not in the file's network
abbrev pub foreign_text : List ℕ → List ℕ → ℕ → List ℕ
foreign_text file folder node =
    folder ++ (codes " has a node " ++ (decimal node
    ++ (codes ", which the network of " ++ (file ++ codes " has not"))))

-- what each notice says
abbrev pub notice_text : StatusNotice → List ℕ
notice_text (NoFolder folder) = codes "there is no folder " ++ folder.now
notice_text (Forbidden folder) = codes "this user may not use the sockets in " ++ folder.now
notice_text (NoSockets folder) = codes "no node has a socket in " ++ (folder.now ++ codes ": start one there")
notice_text (NeverWas folder node) = never_ran_text folder.now node
notice_text (OtherNetwork file folder node) = foreign_text file.now folder.now node
notice_text (NoNetwork file fault) = file.now ++ (codes ": " ++ network_fault_text fault)
notice_text NoInterval = codes "--every is no time from 0.1 to 3600 seconds, with at most 3 decimals"
notice_text System = codes "the system has no descriptor, poll or clock to give; try again"
notice_text Memory = codes "out of memory"
notice_text Output = codes "standard output cannot be written"
notice_text Closed = codes "output Closed"

-- the line, which begins with the program's name
abbrev pub notice_line : StatusNotice → List ℕ
notice_line notice = codes "tokentree: " ++ notice_text notice

-- the line of a check that could not read the nodes
abbrev pub unknown_line : StatusNotice → List ℕ
unknown_line notice = codes "tokentree UNKNOWN - " ++ notice_text notice
