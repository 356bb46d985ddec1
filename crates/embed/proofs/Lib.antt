-- The laws of the calls, in the order of the argument.
mod Exported
mod Copied
mod LongTexts
