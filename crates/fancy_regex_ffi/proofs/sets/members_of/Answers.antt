use Rattle.fancy_regex_ffi.proofs.sets.members_of.Goals as goal

pub returns-in_ok-set_members-in-Set : goal.returns-in_ok-set_members-in-Set
returns-in_ok-set_members-in-Set c =
    let same = c.in_ok-text-in-Set.ensures.0 in
    let place = rw same at c.in_ok-check_place-in-Set.ensures in
    let stays = rw same at c.in_ok-set_members-in-Set.ensures.stays in
    let found = rw same at c.in_ok-set_members-in-Set.ensures.members in
    rw c.in-Set.is (place, stays, found)
