use Rattle.std.proofs.Common.{◌≡◌, ◌∙◌, ℕ, Option, None, Some, unwrap_or, refl}
use Rattle.frame_codec.specs.Spelling.{digits, spelling, parent_number}
use Rattle.frame_codec.proofs.frame_line.encode.Goals as goal

-- the number of a parent, or of none
number_or : (p : Option ℕ) → unwrap_or p 65535 ≡ parent_number p
number_or None = refl
number_or (Some p) = refl

pub returns : goal.returns
unfolding spelling
returns c =
    let f = c.args.frame.now in
    let parent : c.unwrap_or-parent.result ≡ parent_number f.payload.parent = c.unwrap_or-parent.ensures ∙ number_or f.payload.parent in
    let seq : c.copy_from_slice.new.self ≡ digits f.seq = c.copy_from_slice.ensures.after ∙ c.digits.ensures in
    let ack : c.copy_from_slice-2.new.self ≡ digits f.ack = c.copy_from_slice-2.ensures.after ∙ c.digits-2.ensures in
    let distance : c.copy_from_slice-3.new.self ≡ digits f.payload.distance = c.copy_from_slice-3.ensures.after ∙ c.digits-3.ensures in
    let sender : c.copy_from_slice-4.new.self ≡ digits (parent_number f.payload.parent) =
    c.copy_from_slice-4.ensures.after ∙ rw (← parent) c.digits-4.ensures in
    let ring : c.copy_from_slice-5.new.self ≡ digits f.payload.ring = c.copy_from_slice-5.ensures.after ∙ c.digits-5.ensures in
    rw (seq, ack, distance, sender, ring) refl
