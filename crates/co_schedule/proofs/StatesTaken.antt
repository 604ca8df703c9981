-- Home counts the states that come out, and at the end these are all that were given.
use Rattle.std.proofs.Common.{◌≡◌, ℕ, zero, suc, ◌+◌, ◌<◌, ◌≤◌, Bool, true, false, cond, eqb, [], ◌∷◌, ◌++◌, length, refl, sym, ap, ◌∙◌, subst, arith, length-append}
use Rattle.std.proofs.lemmas.Bool.{eqb-true, eqb-false}
use Rattle.aio_model.specs.Loop.FlagsWord.{bit}
use Rattle.aio_model.specs.Coroutines.History.{Entry, Schedule, Push, Enter, History, seat_of, CoPlace, Free, Scheduled, Pushed, pushed, co_place_of, IsLegal}
use Rattle.aio_model.proofs.CoroutineHistories.{is_free}
use Rattle.table_seats.specs.Seats.{Numbers, owns, own_entries, IsPart}
use Rattle.table_seats.proofs.Entries.{own-append, own-here, owns_first}
use Rattle.co_schedule.specs.Calls.{AreFree, HasTaken, HasBegunFirst}
use Rattle.co_schedule.specs.Known.{Known, numbers_of}
use Rattle.co_schedule.specs.States.{CountsOwn, states_given, states_taken, given_at}
use Rattle.co_schedule.proofs.Histories.{moved, co_of, place_here, place_else, place_below, first_is_pushed}
use Rattle.aio_model.specs.Counts.{counted}

-- What others do, home aside.

fewer : (b : Bool) (e : Entry) (xs : History) → cond b (e ∷ xs) xs ≡ [] → xs ≡ []
fewer true e xs none = absurd cc
fewer false e xs none = none

not_nothing : (e : Entry) (xs : History) → e ∷ xs ≡ [] → ⊥
not_nothing e xs none = cc

-- no state comes out where who owns home's number makes no entry
pub taken_by_others : (n : Numbers) (others seen : History) → owns n 64 ≡ true → own_entries seat_of n others ≡ [] → states_taken (others ++ seen) ≡ states_taken seen
taken_by_others n [] seen own none = refl
taken_by_others n (Schedule c cause given seat ∷ others) seen own none =
    taken_by_others n others seen own (fewer (owns n seat) (Schedule c cause given seat) (own_entries seat_of n others) none)
taken_by_others n (Push c seat ∷ others) seen own none =
    taken_by_others n others seen own (fewer (owns n seat) (Push c seat) (own_entries seat_of n others) none)
taken_by_others n (Enter c ∷ others) seen own none =
    absurd (not_nothing (Enter c) (own_entries seat_of n others) (sym (own-here seat_of n (Enter c) others own) ∙ none))

nothing : (xs : History) → length xs ≡ 0 → xs ≡ []
nothing [] none = refl
nothing (x ∷ xs) none = absurd (omega (arith, none))

-- so it is where all of home's entries were seen
pub taken_in_whole : (n : Numbers) (seen mine whole : History) → owns n 64 ≡ true → length mine ≡ length (own_entries seat_of n seen) → IsPart seen whole → own_entries seat_of n whole ≡ mine → states_taken whole ≡ states_taken seen
taken_in_whole n seen mine whole own long part made =
    let split = ap (own_entries seat_of n) part.1 ∙ own-append seat_of n part.0 seen in
    let count = length-append (own_entries seat_of n part.0) (own_entries seat_of n seen) in
    let all : length mine ≡ length (own_entries seat_of n part.0 ++ own_entries seat_of n seen) = ap length (sym made ∙ split) in
    let none : length (own_entries seat_of n part.0) ≡ 0 = omega (arith, all, count, long) in
    ap states_taken part.1 ∙ taken_by_others n part.0 seen own (nothing (own_entries seat_of n part.0) none)

-- Home's count, call by call.

pub home_owns : (v : Known) → v.first ≡ 64 → v.count ≡ 1 → owns (numbers_of v) 64 ≡ true
home_owns v first count =
    subst (λ (k : ℕ). owns (numbers_of v) k ≡ true) first (owns_first (numbers_of v) (omega (arith, count)))

-- the list was taken
pub counts_taken : (states : ℕ) (v w : Known) → v.first ≡ 64 → v.count ≡ 1 → HasTaken v w → CountsOwn states v → CountsOwn states w
counts_taken states v w first count is was =
    let takes = is.steps.takes in
    let seen : w.seen ≡ takes.others ++ v.seen = is.steps.seen ∙ takes.seen in
    let numbers : numbers_of w ≡ numbers_of v = ap numbers_of is.rest in
    let own : own_entries seat_of (numbers_of w) w.seen ≡ own_entries seat_of (numbers_of v) v.seen =
    ap (λ (n : Numbers). own_entries seat_of n w.seen) numbers ∙ ap (own_entries seat_of (numbers_of v)) seen
    ∙ own-append seat_of (numbers_of v) takes.others v.seen ∙ ap (λ (l : History). l ++ own_entries seat_of (numbers_of v) v.seen) takes.not_own in
    let mine : w.mine ≡ v.mine = ap (λ (k : Known). k.mine) is.rest in
    let same : states_taken w.seen ≡ states_taken v.seen = ap states_taken seen ∙ taken_by_others (numbers_of v) takes.others v.seen (home_owns v first count) takes.not_own in
    (ap length mine ∙ was.0 ∙ sym (ap length own), was.1 ∙ sym (ap counted same))

-- the first of the run was entered
pub counts_begun : (c : ℕ) (given : Bool) (states next : ℕ) (v w : Known) → v.first ≡ 64 → v.count ≡ 1 → HasBegunFirst c given v w → next ≡ counted (states + bit given) → CountsOwn states v → CountsOwn next w
counts_begun c given states next v w first count is counts was =
    let begins = is.steps in
    let makes = begins.enters.makes in
    let old : begins.opened.seen ≡ v.seen = ap (λ (k : Known). k.seen) begins.opens.rest in
    let old_mine : begins.opened.mine ≡ v.mine = ap (λ (k : Known). k.mine) begins.opens.rest in
    let old_numbers : numbers_of begins.opened ≡ numbers_of v = ap numbers_of begins.opens.rest in
    let given_is : begins.opened.stage.given ≡ given = ap (λ (k : Known). k.stage.given) begins.opens.rest in
    let numbers : numbers_of w ≡ numbers_of v = ap numbers_of is.rest in
    let owns_home = home_owns v first count in
    let not_own : own_entries seat_of (numbers_of v) makes.others ≡ [] = subst (λ (n : Numbers). own_entries seat_of n makes.others ≡ []) old_numbers makes.not_own in
    let seen : w.seen ≡ Enter c ∷ (makes.others ++ v.seen) = makes.seen ∙ ap (λ (l : History). Enter c ∷ (makes.others ++ l)) old in
    let mine : w.mine ≡ Enter c ∷ v.mine = makes.mine ∙ ap (λ (l : History). Enter c ∷ l) old_mine in
    let own : own_entries seat_of (numbers_of w) w.seen ≡ Enter c ∷ own_entries seat_of (numbers_of v) v.seen =
    ap (λ (n : Numbers). own_entries seat_of n w.seen) numbers ∙ ap (own_entries seat_of (numbers_of v)) seen
    ∙ own-here seat_of (numbers_of v) (Enter c) (makes.others ++ v.seen) owns_home
    ∙ ap (λ (l : History). Enter c ∷ l) (own-append seat_of (numbers_of v) makes.others v.seen ∙ ap (λ (l : History). l ++ own_entries seat_of (numbers_of v) v.seen) not_own) in
    let place : co_place_of c (makes.others ++ v.seen) ≡ Pushed begins.enters.scheduler given =
    ap (λ (l : History). co_place_of c (makes.others ++ l)) (sym old) ∙ begins.enters.was ∙ ap (λ (b : Bool). Pushed begins.enters.scheduler b) given_is in
    let same = taken_by_others (numbers_of v) makes.others v.seen owns_home not_own in
    let more : states_taken w.seen ≡ bit given + states_taken v.seen =
    ap states_taken seen ∙ ap (λ (p : CoPlace). bit (given_at p) + states_taken (makes.others ++ v.seen)) place ∙ ap (λ (n : ℕ). bit given + n) same in
    let long : length w.mine ≡ suc (length v.mine) = ap length mine in
    let owned : length (own_entries seat_of (numbers_of w) w.seen) ≡ suc (length (own_entries seat_of (numbers_of v) v.seen)) = ap length own in
    (long ∙ ap suc was.0 ∙ sym owned, counts ∙ ap (λ (n : ℕ). counted (n + bit given)) was.1 ∙ counted_more (states_taken v.seen) (bit given) ∙ sym (ap counted more))
  where
    counted_more : (n more : ℕ) → counted (counted n + more) ≡ counted (more + n)
    counted_more n more = omega arith

-- What was given and hasn't come out.

-- of the first so many coroutines
abbrev left_in : ℕ → History → ℕ
left_in zero h = 0
left_in (suc k) h = bit (given_at (co_place_of k h)) + left_in k h

left_else : (k : ℕ) (e : Entry) (h : History) → k ≤ co_of e → left_in k (e ∷ h) ≡ left_in k h
left_else zero e h le = refl
left_else (suc k) e h le =
    let other = place_else k e h (λ same. omega (arith, le, same)) in
    let rest = left_else k e h (omega (arith, le)) in
    ap (λ (p : CoPlace). bit (given_at p) + left_in k (e ∷ h)) other ∙ ap (λ (m : ℕ). bit (given_at (co_place_of k h)) + m) rest

left_here : (k : ℕ) (e : Entry) (h : History) → co_of e < k → left_in k (e ∷ h) + bit (given_at (co_place_of (co_of e) h)) ≡ left_in k h + bit (given_at (moved e (co_place_of (co_of e) h)))
left_here zero e h lt = absurd (omega (arith, lt))
left_here (suc k) e h lt = by (eqb k (co_of e)) refl (λ less. left_here k e h less)
  where
    by : (b : Bool) → eqb k (co_of e) ≡ b → (co_of e < k → left_in k (e ∷ h) + bit (given_at (co_place_of (co_of e) h)) ≡ left_in k h + bit (given_at (moved e (co_place_of (co_of e) h))))
        → left_in (suc k) (e ∷ h) + bit (given_at (co_place_of (co_of e) h)) ≡ left_in (suc k) h + bit (given_at (moved e (co_place_of (co_of e) h)))
    by true is more =
        let same : k ≡ co_of e = eqb-true k (co_of e) is in
        let rest = left_else k e h (omega (arith, same)) in
        let now : bit (given_at (co_place_of k (e ∷ h))) ≡ bit (given_at (moved e (co_place_of (co_of e) h))) = ap (λ (c : ℕ). bit (given_at (co_place_of c (e ∷ h)))) same ∙ ap (λ (p : CoPlace). bit (given_at p)) (place_here e h) in
        let was : bit (given_at (co_place_of k h)) ≡ bit (given_at (co_place_of (co_of e) h)) = ap (λ (c : ℕ). bit (given_at (co_place_of c h))) same in
        omega (arith, rest, now, was)
    by false is more =
        let apart = eqb-false k (co_of e) is in
        let other : bit (given_at (co_place_of k (e ∷ h))) ≡ bit (given_at (co_place_of k h)) = ap (λ (p : CoPlace). bit (given_at p)) (place_else k e h apart) in
        let rest = more (omega (arith, lt, apart)) in
        omega (arith, other, rest)

left_nothing : (k : ℕ) → left_in k [] ≡ 0
left_nothing zero = refl
left_nothing (suc k) = let older = left_nothing k in omega (arith, older)

given_pushed : (p : CoPlace) → given_at (pushed p) ≡ given_at p
given_pushed Free = refl
given_pushed (Scheduled s g) = refl
given_pushed (Pushed s g) = refl

given_is : (n : ℕ) (h : History) → IsLegal n h → states_given h ≡ states_taken h + left_in n h
given_is n [] legal = omega (arith, left_nothing n)
given_is n (Schedule d cause given s ∷ P) legal =
    let none : bit (given_at (co_place_of d P)) ≡ 0 = ap (λ (p : CoPlace). bit (given_at p)) legal.0.1 in
    let here = left_here n (Schedule d cause given s) P legal.0.0 in
    let older = given_is n P legal.1 in
    omega (arith, here, none, older)
given_is n (Push d s ∷ P) legal =
    let low = place_below n P d legal.1 (ap is_free legal.0.1) in
    let same : bit (given_at (pushed (co_place_of d P))) ≡ bit (given_at (co_place_of d P)) = ap bit (given_pushed (co_place_of d P)) in
    let here = left_here n (Push d s) P low in
    let older = given_is n P legal.1 in
    omega (arith, here, same, older)
given_is n (Enter d ∷ P) legal =
    let first = first_is_pushed n P d legal.1 legal.0 in
    let low = place_below n P d legal.1 (ap is_free first.2) in
    let here = left_here n (Enter d) P low in
    let older = given_is n P legal.1 in
    omega (arith, here, older)

left_free : (k n : ℕ) (h : History) → k ≤ n → AreFree n h → left_in k h ≡ 0
left_free zero n h le free = refl
left_free (suc k) n h le free =
    let none : bit (given_at (co_place_of k h)) ≡ 0 = ap (λ (p : CoPlace). bit (given_at p)) (free k (omega (arith, le))) in
    let rest = left_free k n h (omega (arith, le)) free in
    omega (arith, none, rest)

-- where nothing is left, all states that were given came out
pub all_taken : (n : ℕ) (h : History) → IsLegal n h → AreFree n h → states_given h ≡ states_taken h
all_taken n h legal free =
    let none = left_free n n h (omega arith) free in
    let all = given_is n h legal in
    omega (arith, none, all)
