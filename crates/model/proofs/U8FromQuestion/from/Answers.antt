-- `u8::from` of a question meets its contract, by each question. Assumes nothing.
use Rattle.model.specs.Calls.{number}
use Rattle.model.proofs.U8FromQuestion.from.Goals as goal

pub returns-in-Room : goal.returns-in-Room
unfolding number
returns-in-Room c = rw c.in-Room.is

pub returns-in-Kind : goal.returns-in-Kind
unfolding number
returns-in-Kind c = rw c.in-Kind.is

pub returns-in-Bound : goal.returns-in-Bound
unfolding number
returns-in-Bound c = rw c.in-Bound.is

pub returns-in-LogLength : goal.returns-in-LogLength
unfolding number
returns-in-LogLength c = rw c.in-LogLength.is

pub returns-in-RecordCount : goal.returns-in-RecordCount
unfolding number
returns-in-RecordCount c = rw c.in-RecordCount.is

pub returns-in-RecordMark : goal.returns-in-RecordMark
unfolding number
returns-in-RecordMark c = rw c.in-RecordMark.is

pub returns-in-Group : goal.returns-in-Group
unfolding number
returns-in-Group c = rw c.in-Group.is

pub returns-in-FrameOrder : goal.returns-in-FrameOrder
unfolding number
returns-in-FrameOrder c = rw c.in-FrameOrder.is

pub returns-in-Load : goal.returns-in-Load
unfolding number
returns-in-Load c = rw c.in-Load.is

pub returns-in-EnoughRows : goal.returns-in-EnoughRows
unfolding number
returns-in-EnoughRows c = rw c.in-EnoughRows.is

pub returns-in-SlotMark : goal.returns-in-SlotMark
unfolding number
returns-in-SlotMark c = rw c.in-SlotMark.is

pub returns-in-SlotKind : goal.returns-in-SlotKind
unfolding number
returns-in-SlotKind c = rw c.in-SlotKind.is

pub returns-in-RowCount : goal.returns-in-RowCount
unfolding number
returns-in-RowCount c = rw c.in-RowCount.is

pub returns-in-RowMark : goal.returns-in-RowMark
unfolding number
returns-in-RowMark c = rw c.in-RowMark.is

pub returns-in-RowFields : goal.returns-in-RowFields
unfolding number
returns-in-RowFields c = rw c.in-RowFields.is

pub returns-in-RowOrder : goal.returns-in-RowOrder
unfolding number
returns-in-RowOrder c = rw c.in-RowOrder.is

pub returns-in-Rest : goal.returns-in-Rest
unfolding number
returns-in-Rest c = rw c.in-Rest.is

pub returns-in-WindowLength : goal.returns-in-WindowLength
unfolding number
returns-in-WindowLength c = rw c.in-WindowLength.is

pub returns-in-Scenes : goal.returns-in-Scenes
unfolding number
returns-in-Scenes c = rw c.in-Scenes.is

pub returns-in-WindowRows : goal.returns-in-WindowRows
unfolding number
returns-in-WindowRows c = rw c.in-WindowRows.is

pub returns-in-Twin : goal.returns-in-Twin
unfolding number
returns-in-Twin c = rw c.in-Twin.is

pub returns-in-Coverage : goal.returns-in-Coverage
unfolding number
returns-in-Coverage c = rw c.in-Coverage.is

pub returns-in-GreatestLoad : goal.returns-in-GreatestLoad
unfolding number
returns-in-GreatestLoad c = rw c.in-GreatestLoad.is

pub returns-in-SlotError : goal.returns-in-SlotError
unfolding number
returns-in-SlotError c = rw c.in-SlotError.is

pub returns-in-Width : goal.returns-in-Width
unfolding number
returns-in-Width c = rw c.in-Width.is

pub returns-in-PairCount : goal.returns-in-PairCount
unfolding number
returns-in-PairCount c = rw c.in-PairCount.is

pub returns-in-Other : goal.returns-in-Other
unfolding number
returns-in-Other c = rw c.in-Other.is
