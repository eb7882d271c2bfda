-- How a decoded and joined piece is read from the stream.
use Rattle.std.proofs.Common.{◌≡◌, ◌++◌, ◌+◌, ℕ, List, length, Option, Some, None, refl, sym, ap, subst, ◌∙◌, inl, inr, append-nil, append_assoc}
use Rattle.oim_records.specs.Grids.{Record}
use Rattle.oim_rows.specs.Header.{file_fault}
use Rattle.oim_rows.specs.RowFacts.{TableHeaderValue}
use Rattle.oim_rows.specs.Streams.{Stream, ending, stream_from}
use Rattle.oim_rows.specs.declared.fault.TableFault.{TableFault}
use Rattle.oim_rows.specs.declared.fault.TableKind.TheVariants as kind
use Rattle.oim_decode.specs.Apart.{Apart, apart_from, cut_at, joined_piece, repeated_from}
use Rattle.oim_decode.specs.Blocks.{ReadsRows}
use Rattle.oim_decode.specs.PieceAnswers.{PieceIsRead, fault_or_next}
use Rattle.oim_decode.specs.Pieces.{stream_then, stream_until}
use Rattle.oim_decode.proofs.ApartLaws.{piece_then_rest}
use Rattle.oim_decode.proofs.PieceSteps.{then_fault}

read_whole : (table : ℕ) (t s u : Stream) → t ≡ stream_then s u → ReadsRows table t s.rows (Some (fault_or_next s.fault u))
read_whole table t s u is = by s.fault refl
  where
    by : (f : Option TableFault) → s.fault ≡ f → ReadsRows table t s.rows (Some (fault_or_next f u))
    by None none =
        let all : t ≡ stream_until None s u = is ∙ ap (λ o. stream_until o s u) none in
        inl (ap (λ (x : Stream). x.rows) all, ap (λ (x : Stream). x.fault) all)
    by (Some e) some =
        let all : t ≡ s = is ∙ ap (λ o. stream_until o s u) some in
        inl (ap (λ (x : Stream). x.rows) all ∙ sym (append-nil s.rows), ap (λ (x : Stream). x.fault) all ∙ some)

-- Memory ran out for the join.
read_none : (table : ℕ) (t s u : Stream) → s ≡ ending (Some (file_fault table kind.Memory)) → ReadsRows table t s.rows (Some (fault_or_next s.fault u))
read_none table t s u is =
    subst (λ (x : Stream). ReadsRows table t x.rows (Some (fault_or_next x.fault u))) (sym is) (inr ((t.rows, refl), file_fault table kind.Memory, inr refl, refl))

-- Memory ran out for the rows after a prefix.
read_front : (g : TableHeaderValue) (n : ℕ) (a : Apart) (o : Option ℕ) (t u v : Stream) → a.fault ≡ None → t ≡ stream_then (cut_at g n o a) u
    → ReadsRows g.table t (cut_at g n o (record a { fault = Some (file_fault g.table kind.Memory) })).rows
    (Some (fault_or_next (cut_at g n o (record a { fault = Some (file_fault g.table kind.Memory) })).fault v))
read_front g n a None t u v good is =
    let all : t ≡ stream_until None (record { rows = a.rows; fault = a.fault }) u = is ∙ ap (λ o. stream_until o (record { rows = a.rows; fault = a.fault }) u) good in
    inr ((u.rows, sym (ap (λ (x : Stream). x.rows) all)), file_fault g.table kind.Memory, inr refl, refl)
read_front g n a (Some k) t u v good is = inl (ap (λ (x : Stream). x.rows) is ∙ sym (append-nil (cut_at g n (Some k) a).rows), ap (λ (x : Stream). x.fault) is)

pub piece_is_read : PieceIsRead
piece_is_read g n ids piece rest a s decoded (inr short) =
    read_none g.table (stream_from g n ids (piece ++ rest)) s (stream_from g (n + length piece) (ids ++ a.ids) rest) short
piece_is_read g n ids piece rest a s (inl whole) (inl is) =
    read_whole g.table (stream_from g n ids (piece ++ rest)) s (stream_from g (n + length piece) (ids ++ a.ids) rest)
    (piece_then_rest g n ids piece rest ∙ ap (λ (b : Apart). stream_then (joined_piece g n ids b) (stream_from g (n + length piece) (ids ++ b.ids) rest)) (sym whole)
    ∙ ap (λ x. stream_then x (stream_from g (n + length piece) (ids ++ a.ids) rest)) (sym is))
piece_is_read g n ids piece rest a s (inr h) (inl is) =
    let front = apart_from g n h.front in
    let e = file_fault g.table kind.Memory in
    let so : s ≡ joined_piece g n ids (record front { fault = Some e }) = is ∙ ap (joined_piece g n ids) (h.is ∙ then_fault front e) in
    let next = stream_from g (n + length piece) (ids ++ a.ids) rest in
    subst (λ (x : Stream). ReadsRows g.table (stream_from g n ids (piece ++ rest)) x.rows (Some (fault_or_next x.fault next))) (sym so)
    (read_front g n front (repeated_from 0 ids front.ids) (stream_from g n ids (piece ++ rest)) (stream_from g (n + length h.front) (ids ++ front.ids) (h.rest ++ rest)) next h.good
    (ap (λ (p : List Record). stream_from g n ids (p ++ rest)) h.split ∙ ap (stream_from g n ids) (append_assoc h.front h.rest rest) ∙ piece_then_rest g n ids h.front (h.rest ++ rest)))
