-- What is due when, and how long to rest: small examples, with some that fail.
use Rattle.std.proofs.Common.{◌≡◌, true, false, [], ◌∷◌, Some, None, map, refl, arith, inr}
use Rattle.lock_client.specs.declared.client.ClientDeed.TheVariants as deed
use Rattle.lock_command.specs.declared.course.Course.{Course}
use Rattle.lock_command.specs.Course.{later, new_course, asked_course, timed, closed, connected, started, given_back, asked_to_end, is_past, without_due, killed_again, lacks_room, age_of, left_of, IsCourseAfter}
use Rattle.lock_command.specs.Rest.{child_rest, longest_of, rest_of}

-- the node closed a connection; the next one stands for 0.3 seconds; the command has run for 0.8, and an answer is due in 4
abbrev course : Course
course = record { time = 1000; connected = 700; was_closed = true; started = 200; due = Some 5000; kill_due = None }

later-three : later 3000 1000 ≡ 4000
later-three = refl

-- the clock stays at its last instant
later_not-beyond : later 3000 18446744073709551615 ≡ 18446744073709551615
later_not-beyond = refl

new-limit : (new_course (Some 2000)).due ≡ Some 2000
new-limit = refl

new_not-closed : (new_course None).was_closed ≡ false
new_not-closed = refl

asked-seconds : asked_course (Some (record { millis = 1500 })) ≡ new_course (Some 1500)
asked-seconds = refl

asked_not-limit : (asked_course None).due ≡ None
asked_not-limit = refl

timed-forward : timed 1200 course ≡ record course { time = 1200 }
timed-forward = refl

timed_not-back : timed 900 course ≡ course
timed_not-back = refl

closes : (closed (new_course None)).was_closed ≡ true
closes = refl

connects : (connected course).connected ≡ 1000
connects = refl

-- that a connection was closed stays noted
connects_not-forgotten : (connected course).was_closed ≡ true
connects_not-forgotten = refl

starts : started course ≡ record course { started = 1000; due = None }
starts = refl

starts_not-due : is_past (started course).due 18446744073709551615 ≡ false
starts_not-due = refl

-- the node has 10 seconds for its word, and a command 3 to end
gives-back : (given_back course).due ≡ Some 11000
gives-back = refl

asks-to_end : (asked_to_end course).kill_due ≡ Some 4000
asks-to_end = refl

asks_not-due : (asked_to_end course).due ≡ Some 5000
asks_not-due = refl

past-at_once : is_past (Some 5000) 5000 ≡ true
past-at_once = refl

past_not-before : is_past (Some 5000) 4999 ≡ false
past_not-before = refl

past_not-never : is_past None 5000 ≡ false
past_not-never = refl

due-once : (without_due true course).due ≡ None
due-once = refl

due_not-yet : without_due false course ≡ course
due_not-yet = refl

kills-again : (killed_again true course).kill_due ≡ Some 2000
kills-again = refl

kills_not-yet : killed_again false course ≡ course
kills_not-yet = refl

lacks-young : lacks_room course ≡ true
lacks-young = refl

-- after half a second the node counts as keeping the connection
lacks_not-old : lacks_room (timed 1200 course) ≡ false
lacks_not-old = refl

lacks_not-first : lacks_room (new_course None) ≡ false
lacks_not-first = refl

age-running : age_of true course ≡ Some 800
age-running = refl

age_not-none : age_of false course ≡ None
age_not-none = refl

left-due : left_of false course ≡ Some 4000
left-due = refl

left-family : left_of true course ≡ Some 100
left-family = refl

-- what is overdue is due now
left_not-below : left_of false (timed 6000 course) ≡ Some 0
left_not-below = refl

-- ---- after a deed

deed-ends : IsCourseAfter deed.EndCommand course (record course { kill_due = Some 4000 })
deed-ends = refl

-- a command that is asked to end is killed some time
deed_not-patient : ¬ IsCourseAfter deed.EndCommand course course
deed_not-patient e = grind (arith, e)

deed-gives_back : IsCourseAfter deed.GiveBack course (record course { due = Some 11000 })
deed-gives_back = refl

deed_not-waiting : ¬ IsCourseAfter deed.Wait course (started course)
deed_not-waiting e = grind (arith, e)

-- 1.2 seconds after the start there is a connection again
deed-connects : IsCourseAfter deed.ConnectAgain course (record course { time = 1200; connected = 1200 })
deed-connects = inr (1200, refl)

-- ---- rests

-- a sixteenth of 0.16 seconds; at least 1 millisecond, at most 25
rests : map child_rest (160 ∷ 0 ∷ 800 ∷ []) ≡ 10 ∷ 1 ∷ 25 ∷ []
rests = refl

longest-command : longest_of (Some 160) true ≡ 10
longest-command = refl

longest-signals : longest_of None true ≡ 100
longest-signals = refl

longest-nothing : longest_of None false ≡ 1000
longest-nothing = refl

rest-due : rest_of (Some 160) (Some 3) false ≡ 3
rest-due = refl

rest_not-longer : rest_of (Some 160) (Some 50) false ≡ 10
rest_not-longer = refl

rest-none_due : rest_of None None false ≡ 1000
rest-none_due = refl
