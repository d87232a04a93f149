-- The second half of demand 3 from the first: where every run of the table is a run of the book, calls may be rearranged.
-- Assumes nothing.
use Rattle.std.specs.Prelude.{Option}
use Rattle.std.specs.Option.{option_map}
use mathlib.Core.Path.{◌≡◌, sym, ap, ◌∙◌, subst}
use mathlib.Core.List.{List, [], map}
use Prim.Native.Nat.{ℕ, ◌≤◌}
use lib.ListN.{get_or}
use Rattle.session_table.specs.Table.{new_table}
use Rattle.session_book.specs.Call.{Call, no_call, refused, Outcome, Decision}
use Rattle.session_book.specs.Book.{book_outcomes, book_after}
use Rattle.session_book.specs.Runs.{table_outcomes}
use Rattle.session_book.specs.Demand3.{Each, Pairs, PortFits, call_at, last_of, last_reading, view_of_page, book_session, Named, NotFull, LikeBook, FollowsBook, Rearrangement}
use Rattle.session_book.proofs.Pages.{page-same}
use Rattle.session_book.proofs.Rearrange.{each_map, each_from, each-get_or, in_order, rearranged-outcomes, rearranged-room, rearranged-pages}

pub rearrangement : {H : Type 0} (decide : Call → Decision H) (belongs : Call → Option ℕ) → Named decide belongs → FollowsBook decide
    → Rearrangement decide belongs
rearrangement {H} decide belongs named follows R lo hi cs ports forward room order re =
    record {
      room = room'';
      outcomes = λ o. two.outcomes ∙ rearranged-outcomes decide belongs named R cs forward room' order re o
          ∙ ap (λ (l : List (Outcome H)). map (λ i. get_or l i o) order) (sym one.outcomes);
      sessions = λ id. two.sessions id ∙ pages id ∙ sym (one.sessions id);
    }
  where
    ports' : Each PortFits (map (call_at cs) order)
    ports' =
        each_map PortFits (call_at cs) order
        (each_from (λ i. PortFits (call_at cs i)) order (λ i h. each-get_or PortFits cs no_call i ports (in_order belongs cs order re i h)))

    one : LikeBook decide R cs
    one = follows R lo hi cs ports forward

    two : LikeBook decide R (map (call_at cs) order)
    two = follows R lo hi (map (call_at cs) order) ports' (subst (Pairs ◌≤◌) (sym re.same_clocks) forward)

    room' : Each NotFull (book_outcomes decide R [] cs)
    room' = subst (Each NotFull) one.outcomes room

    -- an outcome for the places past the end, which nothing reads
    any : Outcome H
    any = record { answer = refused 0; output = [] }

    room'' : Each NotFull (table_outcomes decide (new_table R) (map (call_at cs) order))
    room'' = subst (Each NotFull) (sym two.outcomes) (rearranged-room decide belongs named R cs forward room' order re any)

    pages : (id : ℕ) → book_session R (book_after decide R [] (map (call_at cs) order)) (last_reading (map (call_at cs) order)) id
        ≡ book_session R (book_after decide R [] cs) (last_reading cs) id
    pages id =
        ap (λ (l : List ℕ). book_session R (book_after decide R [] (map (call_at cs) order)) (last_of 0 l) id) re.same_clocks
        ∙ ap (option_map view_of_page) (sym (page-same R (last_reading cs) id (rearranged-pages decide belongs named R cs forward room' order re any)))
