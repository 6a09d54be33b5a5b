use mathlib.Core.List.{flat_map}
use Rattle.text.proofs.Appending.{then}
use Rattle.sheet_record.specs.Word.{number}
use Rattle.sheet_record.specs.Encode.{bytes_of, header_words}
use Rattle.sheet_record.proofs.encode.put_header.Goals as goal

pub returns-in-Some : goal.returns-in-Some
unfolding number bytes_of flat_map header_words
returns-in-Some c =
    rw c.in-Some.is
    (then _ _ _ c.put_word.ensures
    (then _ _ _ c.put_word-2.ensures
    (then _ _ _ c.put_word-3.ensures
    (then _ _ _ c.put_word-4.ensures
    (then _ _ _ c.put_word-5.ensures
    (then _ _ _ c.put_word-6.ensures
    (then _ _ _ c.put_word-7.ensures
    (then _ _ _ c.put_word-8.ensures
    (then _ _ _ c.put_word-9.ensures c.put_word-in-Some.ensures)))))))))
